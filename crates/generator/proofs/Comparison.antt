-- The figures of the plan and of the plain layout, for every accepted record.
use Rattle.std.specs.Prelude.{Ok, Err}
use Rattle.generator.specs.Answers.{Answer}
use mathlib.Core.Path.{◌≡◌, refl}
use mathlib.Core.Logic.{◌≢◌}
use mathlib.Core.List.{List}
use Prim.Native.Nat.{ℕ, ◌≤◌}
use native.Mathlib.Omega.{arith}
use Rattle.scheme.proofs.Plain.{plain_figures}
use Rattle.scheme.proofs.Figures.{tight_figures, figures_bound}
use Rattle.generator.specs.declared.Header.{Header}
use Rattle.generator.specs.Records.{record_of, distance, low_reads, high_reads, Sound}
use Rattle.generator.specs.Comparison.{plain_greatest, Compared, ComparedRecord}
use Rattle.generator.proofs.Accepts.{accepted_sound}
use Rattle.generator.proofs.SchemeOf.{our_scheme, zero_symbol, one_symbol, two_symbols}
use Rattle.generator.proofs.PlainLayout.{plain_scheme}

-- the comparison holds of every sound header
comparison : (h : Header) → Sound h → Compared h
unfolding distance low_reads high_reads plain_greatest
comparison h s =
    let ours = our_scheme h s in
    let plain = plain_scheme h s in
    let nodes : 1 ≤ h.n = omega (arith, s.two) in
    let two : ◌≢◌ {A = ℕ} 0 1 = λ e. omega arith in
    record {
      ours = ours;
      our_figures = tight_figures ours.scheme nodes ours.tight;
      plain = plain;
      plain_figures = plain_figures plain.scheme s.some s.fits (zero_symbol h s) (one_symbol h s) (two_symbols h s) plain.plain;
      every_plain = λ t is. plain_figures t s.some s.fits 0 1 two is;
      bound = λ t w l g has. figures_bound t s.some s.fits 0 1 two w l g has;
    }

-- and so of every record that was read
pub compared : (rec : List ℕ) → ComparedRecord (record_of rec)
unfolding ComparedRecord
compared rec = go (record_of rec) refl
  where
    go : (r : Answer Header) → record_of rec ≡ r → ComparedRecord r
    go (Ok h) e = comparison h (accepted_sound rec h e)
    go (Err f) e = tt
