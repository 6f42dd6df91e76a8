-- Numbers 7 to 11 as document 03 states them (specs/Blocks.antt), and that ours are the same for every record whose n divides k·d and every input, with shares row after row: number 6, which document 03 gives to the others, is no longer given. Of an update these are the numbers of what it is given; 12 and 13 come after them.
-- Its text stands here but for the marks: what it has as `abbrev` is `unfoldable`. Its records are quoted in the crate `generator`, its `size_of` in the crate `field`, its lanes in Agreement;
-- its `first_of`, `when`, `all_below`, `is_in` and `distinct` are those of `lists`, the same recursions. Its faults take the record itself, ours a header: `fault_of` puts the record's number before them.
use mathlib.Core.Path.{◌≡◌, refl}
use mathlib.Core.Bool.{Bool, true, false, ◌&&◌, ◌||◌, not, or_comm}
use mathlib.Core.List.{List}
use Prim.Native.Nat.{ℕ, suc, ◌*◌, ◌%◌}
use borrow.Author.Tests.{ltb-true, ltb-false, le-leb, lt-leb}
use lib.Dec.{eqb, ltb, leb}
use lib.ListN.{length}
use Rattle.lists.specs.Choice.{first_of, when}
use Rattle.lists.specs.Numbers.{all_below, distinct}
use Rattle.lists.proofs.Cases.{by_test}
use Rattle.field.proofs.Agreement.{size_of, size_of_agrees}
use Rattle.layout.specs.Layout.{row_after_row}
use Rattle.generator.specs.Records as R
use Rattle.generator.proofs.Older.{Older, older_width}
use Rattle.generator.proofs.RecordsAgreement.{header_of, record_fault, header_of_agrees, record_fault_agrees}
use Rattle.refusals.specs.Faults as Faults
use Rattle.refusals.specs.Conditions as Conditions
use Rattle.refusals.proofs.OneByte.{times_width, symbols_test, lane_test}
use Rattle.blocks.proofs.Agreement.{lane_of, lane_of_agrees}
use Rattle.encode.specs.Promise as Encode
use Rattle.update.specs.Promise as Update
use Rattle.recover.specs.Promise as Recover
use Rattle.belongs.specs.Promise as Belongs

-- document 03's definitions
unfoldable pub lanes_bad : ℕ → Bool
lanes_bad l = eqb l 0 || ltb 4096 l

unfoldable pub encode_fault : List ℕ → ℕ → ℕ → List ℕ → ℕ
encode_fault rec l out s = let h = header_of rec in first_of (record_fault rec) (first_of (when (lanes_bad l) 7) (first_of (when (not (eqb (length s) (h.k * l) && eqb out (h.n * l))) 8) (when (not (all_below (size_of h.p) s)) 11)))

unfoldable pub update_fault : List ℕ → ℕ → ℕ → ℕ → ℕ → ℕ → List ℕ → ℕ
update_fault rec l r t old new s = let h = header_of rec in let m = size_of h.p in first_of (record_fault rec) (first_of (when (lanes_bad l) 7) (first_of (when (not (eqb (length s) (h.n * l))) 8) (first_of (when (leb h.k r || leb l t) 9) (when (not (ltb old m && (ltb new m && all_below m (lane_of h.n l t s)))) 11))))

unfoldable pub recover_fault : List ℕ → ℕ → List ℕ → List ℕ → ℕ → ℕ
recover_fault rec l nodes s out = let h = header_of rec in first_of (record_fault rec) (first_of (when (lanes_bad l) 7) (first_of (when (not (eqb (length nodes) h.k && (eqb (length s) (h.k * l) && eqb out (h.k * l)))) 8) (first_of (when (not (all_below h.n nodes)) 9) (first_of (when (not (distinct nodes)) 10) (when (not (all_below (size_of h.p) s)) 11)))))

unfoldable pub rebuild_fault : List ℕ → ℕ → List ℕ → List ℕ → ℕ → ℕ → ℕ
rebuild_fault rec l nodes s target out = let h = header_of rec in first_of (record_fault rec) (first_of (when (lanes_bad l) 7) (first_of (when (not (eqb (length nodes) h.k && (eqb (length s) (h.k * l) && eqb out l))) 8) (first_of (when (not (all_below h.n nodes) || leb h.n target) 9) (first_of (when (not (distinct nodes)) 10) (when (not (all_below (size_of h.p) s)) 11)))))

unfoldable pub belongs_fault : List ℕ → ℕ → List ℕ → ℕ
belongs_fault rec l s = let h = header_of rec in first_of (record_fault rec) (first_of (when (lanes_bad l) 7) (first_of (when (not (eqb (length s) (h.n * l))) 8) (when (not (all_below (size_of h.p) s)) 11)))

pub lanes_bad_agrees : (l : ℕ) → lanes_bad l ≡ Conditions.lanes_bad l
unfolding lanes_bad Conditions.lanes_bad
lanes_bad_agrees l = refl

-- one condition that is put together from two is two conditions of the same number
either : (a b : Bool) (m rest : ℕ) → first_of (when (a || b) (suc m)) rest ≡ first_of (when a (suc m)) (first_of (when b (suc m)) rest)
either true b m rest = refl
either false b m rest = refl

either_last : (a b : Bool) (m : ℕ) → when (a || b) (suc m) ≡ first_of (when a (suc m)) (when b (suc m))
either_last true b m = refl
either_last false b m = refl

-- not both, or not one of them
not_and : (a b : Bool) → not (a && b) ≡ (not a || not b)
not_and true b = refl
not_and false b = refl

-- not below, or at least
not_below : (x m : ℕ) → not (ltb x m) ≡ leb m x
not_below x m = by_test (ltb x m) (λ e. rw (e, lt-leb m x (ltb-true x m e))) (λ e. rw (e, le-leb m x (ltb-false x m e)))

module _ (rec : List ℕ) (older : Older rec) (l : ℕ) (even : (R.header_of rec).k * R.distance (R.header_of rec) % (R.header_of rec).n ≡ 0) where
  pub encode_fault_agrees : (out : ℕ) (s : List ℕ) → encode_fault rec l out s ≡ Faults.fault_of rec (λ h. Encode.encode_fault h l out s)
  unfolding encode_fault Faults.fault_of Encode.encode_fault Conditions.length_bad
  encode_fault_agrees out s = rw (header_of_agrees rec older, record_fault_agrees rec older even, lanes_bad_agrees l, size_of_agrees (R.modulus_of (R.header_of rec)), times_width (R.header_of rec) (older_width rec older), times_width (R.header_of rec) (older_width rec older), symbols_test (R.header_of rec) (older_width rec older), not_and, either)

  pub update_fault_agrees : (r t old new : ℕ) (s : List ℕ) → update_fault rec l r t old new s ≡ Faults.fault_of rec (λ h. Update.input_fault row_after_row h l r t old new s)
  unfolding update_fault Faults.fault_of Update.input_fault Conditions.length_bad Conditions.number_bad Conditions.symbol_bad
  update_fault_agrees r t old new s = rw (header_of_agrees rec older, record_fault_agrees rec older even, lanes_bad_agrees l, size_of_agrees (R.modulus_of (R.header_of rec)), times_width (R.header_of rec) (older_width rec older), lane_test (R.header_of rec) (older_width rec older), lane_of_agrees (R.header_of rec).n l t s, not_and, not_and, not_below, not_below, either, either_last, either_last)

  pub recover_fault_agrees : (nodes s : List ℕ) (out : ℕ) → recover_fault rec l nodes s out ≡ Faults.fault_of rec (λ h. Recover.recover_fault h l nodes s out)
  unfolding recover_fault Faults.fault_of Recover.recover_fault Faults.list_fault Conditions.length_bad Conditions.nodes_bad Conditions.twice_bad
  recover_fault_agrees nodes s out = rw (header_of_agrees rec older, record_fault_agrees rec older even, lanes_bad_agrees l, size_of_agrees (R.modulus_of (R.header_of rec)), times_width (R.header_of rec) (older_width rec older), symbols_test (R.header_of rec) (older_width rec older), not_and, not_and, either, either)

  pub rebuild_fault_agrees : (nodes s : List ℕ) (target out : ℕ) → rebuild_fault rec l nodes s target out ≡ Faults.fault_of rec (λ h. Recover.rebuild_fault h l nodes s target out)
  unfolding rebuild_fault Faults.fault_of Recover.rebuild_fault Faults.list_fault Conditions.length_bad Conditions.number_bad Conditions.nodes_bad Conditions.twice_bad
  rebuild_fault_agrees nodes s target out = rw (header_of_agrees rec older, record_fault_agrees rec older even, lanes_bad_agrees l, size_of_agrees (R.modulus_of (R.header_of rec)), times_width (R.header_of rec) (older_width rec older), times_width (R.header_of rec) (older_width rec older), symbols_test (R.header_of rec) (older_width rec older), not_and, not_and, either, either, or_comm, either)

  pub belongs_fault_agrees : (s : List ℕ) → belongs_fault rec l s ≡ Faults.fault_of rec (λ h. Belongs.belongs_fault h l s)
  unfolding belongs_fault Faults.fault_of Belongs.belongs_fault Conditions.length_bad
  belongs_fault_agrees s = rw (header_of_agrees rec older, record_fault_agrees rec older even, lanes_bad_agrees l, size_of_agrees (R.modulus_of (R.header_of rec)), times_width (R.header_of rec) (older_width rec older), symbols_test (R.header_of rec) (older_width rec older))
