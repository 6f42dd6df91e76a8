-- The plan sheet: the sentences, by its definition.
use Rattle.std.specs.Prelude.{◌≡◌, ℕ, zero, suc, ◌<◌, Err}
use mathlib.Core.Path.{refl}
use native.Mathlib.Omega.{arith}
use Rattle.generator.specs.declared.Header.{Header}
use Rattle.generator.specs.Records.{header_of, record_of, judged}
use Rattle.sheet_text.specs.Sheet.{sheet_for}
use Rattle.demands.specs.Sheets.{Sheets}

-- a number that is met is what is known of the record
turned_away : (f : ℕ) (h : Header) → 0 < f → judged f h ≡ Err f
unfolding judged
turned_away zero h some = absurd (omega arith)
turned_away (suc f) h some = refl

pub sheets : Sheets
unfolding sheet_for record_of judged
sheets =
    record {
      refused = λ rec f e some. rw (e, turned_away f (header_of rec) some) refl;
      accepted = λ rec e. rw e refl;
    }
