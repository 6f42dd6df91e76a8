-- What writers write, one text after another.
use mathlib.Core.Path.{◌≡◌, refl, sym, ap, ◌∙◌}
use mathlib.Core.List.{List, [], ◌++◌, append-nil, append_assoc}
use Prim.Native.Nat.{ℕ, ◌+◌, ◌-◌, ◌≤◌, ◌<◌}
use native.Mathlib.Omega.{arith}
use lib.ListN.{length, length-append, length-take, length-drop}
use Rattle.std.specs.Borrow.{MutBor}
use Rattle.lists.specs.Rows.{rows_from}
use Rattle.lists.proofs.Rows.{rows_next, rows_end}
use Rattle.text.specs.declared.Writer.{Writer}
use Rattle.text.specs.Writing.{OnPage}
use Rattle.text.specs.Inner.Writing.{written, Puts}
use Rattle.text.specs.Inner.Writer.{room, Begins, Writes}
use Rattle.text.proofs.Writing.{puts_none, puts_then, puts_front}

-- a text that is put where there is room for it
pub writes_puts : {a b : Writer} {text : List ℕ} → length text ≤ room a → b.page.ghost_name ≡ a.page.ghost_name → Puts a.page.now b.page.now a.end b.end text → Writes a b text
unfolding room written
writes_puts {a} {b} {text} h same p =
    let long : length b.page.now ≡ length a.page.now = ap length p.bytes ∙ simp (length-append, length-take, length-drop) (omega (arith, a.inside)) in
    record { same_page = same; puts = p; room = omega (arith, p.place) }

-- no text
pub writes_none : (w : Writer) → Writes w w []
writes_none w = record { same_page = refl; puts = puts_none w.page.now w.end; room = omega arith }

-- two texts one after the other
pub writes_then : {a b c : Writer} {xs ys : List ℕ} → Writes a b xs → Writes b c ys → Writes a c (xs ++ ys)
writes_then {a} {b} {c} {xs} {ys} p q =
    record { same_page = q.same_page ∙ p.same_page; puts = puts_then p.puts q.puts a.inside; room = omega (arith, p.room, q.room, length-append xs ys) }

-- a text is being written: of the whole a part is done, and the rest is to come
pub record Writing (start now : Writer) (todo whole : List ℕ) : Type 0 where
  pub done : List ℕ
  pub writes : Writes start now done
  pub all : done ++ todo ≡ whole

pub writing_start : (w : Writer) (text : List ℕ) → Writing w w text text
writing_start w text = record { done = []; writes = writes_none w; all = refl }

pub writing_next : {start now after : Writer} {xs todo whole : List ℕ} → Writing start now (xs ++ todo) whole → Writes now after xs → Writing start after todo whole
writing_next {start} {now} {after} {xs} {todo} {whole} f p =
    record { done = f.done ++ xs; writes = writes_then f.writes p; all = append_assoc f.done xs todo ∙ f.all }

pub writing_done : {start now : Writer} {text : List ℕ} → Writing start now [] text → Writes start now text
writing_done {start} {now} {text} f = let e : f.done ≡ text = sym (append-nil f.done) ∙ f.all in rw e at f.writes

-- rows from i on are to come: the next is written, or there is none
pub writing_row : {start now after : Writer} {whole : List ℕ} (row : ℕ → List ℕ) (n i : ℕ) → i < n → Writing start now (rows_from row i (n - i)) whole → Writes now after (row i) → Writing start after (rows_from row (i + 1) (n - (i + 1))) whole
writing_row row n i h f p = writing_next (rw (rows_next row n i h) at f) p

pub writing_rows_done : {start now : Writer} {whole : List ℕ} (row : ℕ → List ℕ) (n i : ℕ) → n ≤ i → Writing start now (rows_from row i (n - i)) whole → Writes start now whole
writing_rows_done row n i h f = writing_done (rw (rows_end row n i h) at f)

-- a text on a page that nothing was written on
pub written_page : {page : MutBor (List ℕ)} {start now : Writer} {text : List ℕ} → Begins page 0 start → Writes start now text → OnPage page.now now.page.now now.end text
written_page {page} {start} {now} {text} b w = puts_front (rw (b.bytes, b.end) at w.puts)
