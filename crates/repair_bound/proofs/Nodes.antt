-- k nodes that leave out only nodes of a given kind, and the message with given symbols there.
use mathlib.Core.Path.{◌≡◌, sym, ap, ◌∙◌}
use mathlib.Core.Bool.{Bool, true, not}
use mathlib.Core.List.{List, map}
use mathlib.Core.Logic.{◌⊎◌, inl, inr, ⊎_elim}
use Prim.Native.Nat.{ℕ, ◌+◌, ◌-◌, ◌≤◌, ◌<◌}
use native.Mathlib.Omega.{arith}
use borrow.Author.Tests.{eq-eqb}
use lib.ListN.{length, length-map}
use Rattle.lists.specs.Counting.{count_from, passing_from}
use Rattle.lists.specs.Numbers.{all_below, is_in}
use Rattle.lists.proofs.All.{All-imp, All-at, All-map, agree_map}
use Rattle.std.proofs.lemmas.Bool.{and_from}
use Rattle.lists.proofs.Cases.{by_test}
use Rattle.lists.proofs.Chosen.{choose}
use Rattle.lists.proofs.Numbers.{StandsIn, all_below_lem, all_distinct}
use Rattle.lists.proofs.Places.{Places}
use Rattle.lists.proofs.Passing.{length_passing, passing_within, passing_place, passing_rises, rises_distinct}
use Rattle.generator.specs.declared.Header.{Header}
use Rattle.generator.specs.Records.{size, Sound}
use Rattle.generator.specs.Codewords.{node_of}
use Rattle.generator.specs.Claims.{is_message, are_nodes}
use Rattle.generator.proofs.Recovery.{some_message}
use Rattle.traces.proofs.Claims.{count_others}

-- of n numbers k that leave out only some that pass p
keep : (n k : ℕ) (p : ℕ → Bool) → k ≤ n → n - k ≤ count_from n 0 p → (js : List ℕ) × Places n k js × ((j : ℕ) → j < n → (p j ≡ true) ⊎ StandsIn j js)
keep n k p fits many =
    let out = choose n (n - k) p many in
    let kept : ℕ → Bool = λ j. not (is_in j out.which) in
    let js = passing_from n 0 kept in (
      js,
      record {
        low = All-imp (λ j. (0 ≤ j) × (j < 0 + n)) (λ j. j < n) (λ j w. omega arith) js (passing_within n 0 kept);
        distinct = rises_distinct js (passing_rises n 0 kept);
        size = length_passing n 0 kept ∙ omega (arith, count_others n out.which out.below out.different, out.size);
      },
      λ j l. by_test (is_in j out.which) (λ e. inl (out.pass j e)) (λ e. inr (passing_place n 0 kept j (omega arith) (omega arith) (ap not e))),
    )

-- where n − k nodes or more pass p, some message has the symbol f j at each node j that fails
pub given_message : (h : Header) → Sound h → (p : ℕ → Bool) (f : ℕ → ℕ) → h.n - h.k ≤ count_from h.n 0 p → ((j : ℕ) → f j < size h) → (ms : List ℕ) × (is_message h ms ≡ true) × ((j : ℕ) → j < h.n → (p j ≡ true) ⊎ (node_of h ms j ≡ f j))
unfolding are_nodes
given_message h s p f many low = go (keep h.n h.k p s.fits many)
  where
    go : (js : List ℕ) × Places h.n h.k js × ((j : ℕ) → j < h.n → (p j ≡ true) ⊎ StandsIn j js) → (ms : List ℕ) × (is_message h ms ≡ true) × ((j : ℕ) → j < h.n → (p j ≡ true) ⊎ (node_of h ms j ≡ f j))
    go (js, places, each) =
        let nodes : are_nodes h js ≡ true = and_from _ _ (eq-eqb (length js) h.k places.size) (and_from _ _ (all_below_lem h.n js places.low) (all_distinct js places.distinct)) in
        let symbols : all_below (size h) (map f js) ≡ true = all_below_lem (size h) (map f js) (All-map (λ x. x < size h) f js (All-imp (λ j. j < h.n) (λ j. f j < size h) (λ j l. low j) js places.low)) in
        let (ms, m, at) = some_message h s js (map f js) nodes (length-map js f ∙ places.size) symbols in
        let held = agree_map (node_of h ms) f js at in
        (ms, m, λ j node. ⊎_elim inl (λ (u, inside, is). inr (ap (node_of h ms) (sym is) ∙ All-at (λ i. node_of h ms i ≡ f i) 0 js held u inside ∙ ap f is)) (each j node))
