-- The version of the library as a number. tests/version.py holds it to the file VERSION.
use Rattle.std.specs.Prelude.{ℕ, ◌+◌, ◌*◌}

-- 10000 times the major version, 100 times the minor one, and the patch
abbrev pub version_number : ℕ
version_number = 10000 * 1 + 100 * 0 + 0
