-- `nodes_where` meets its contract. Invariant: the nodes below j that pass are listed, and those from j on are to come.
use mathlib.Core.Path.{sym, ◌∙◌}
use mathlib.Core.List.{append-nil, append_assoc}
use native.Mathlib.Omega.{arith}
use Rattle.lists.proofs.Passing.{passing_next, passing_end}
use Rattle.node_lists.proofs.nodes_where.Goals as goal
use Rattle.node_lists.proofs.nodes_where.Goals.{else-test, then-test}

pub loop-j-preserved : goal.loop-j-preserved
loop-j-preserved g c =
    elim c.if-test.branch [
      | then-test w ↦ record {
        few = rw w.nodes-is (omega (arith, w.push.ensures.len));
        listed = λ q gives.
            let todo = rw (passing_next _ _ _ c.loop-j-test.true) at (c.loop-j.invariant.listed q gives) in
            let test = sym (gives _ _ c.loop-j-test.true c.test.ensures) in
            rw (w.nodes-is, w.push.ensures.items, append_assoc) (rw (test ∙ w.if-test.true) at todo);
      }
      | else-test w ↦ rw w.nodes-is record {
        few = omega arith;
        listed = λ q gives.
            let todo = rw (passing_next _ _ _ c.loop-j-test.true) at (c.loop-j.invariant.listed q gives) in
            let test = sym (gives _ _ c.loop-j-test.true c.test.ensures) in
            rw (test ∙ w.if-test.false) at todo;
      }
    ]

pub returns : goal.returns
returns g c = λ q gives. sym (append-nil _) ∙ rw (passing_end _ _ _ c.loop-j-test.false) at (c.loop-j.invariant.listed q gives)
