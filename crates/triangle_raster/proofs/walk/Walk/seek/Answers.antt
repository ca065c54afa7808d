use Rattle.std.proofs.Common.{◌≡◌, sym, ◌∙◌, arith}
use Rattle.triangle_raster.proofs.Walks.{found_here, known_depth, none_from_test, passed_by, walk_done}
use Rattle.triangle_raster.proofs.walk.Walk.seek.Goals as goal

pub loop-self-preserved : goal.loop-self-preserved
loop-self-preserved c = record {
  holds = c.pass.ensures.holds;
  same =
      passed_by c.loop-self.self c.loop-self.invariant.holds c.loop-self-test.true
      (sym (c.loop-self.invariant.holds.next_holds c.loop-self-test.true).depth_holds ∙ none_from_test _ (sym c.is_some.ensures ∙ c.if-is_some.false))
      c.pass.ensures.seen
      ∙ c.loop-self.invariant.same;
}

pub returns-clause-none : goal.returns-clause-none
returns-clause-none c = λ _.
    let none : c.loop-self.self.left ≡ 0 = omega arith in
    walk_done c.loop-self.self none

pub returns-then-is_some-clause-none : goal.returns-then-is_some-clause-none
returns-then-is_some-clause-none c = λ none. known_depth _ (sym c.is_some.ensures ∙ c.if-is_some.true) none

pub returns-then-is_some-clause-some : goal.returns-then-is_some-clause-some
returns-then-is_some-clause-some c = found_here _ _ c.loop-self-test.true (c.loop-self.invariant.holds.next_holds c.loop-self-test.true).depth_holds
