use Rattle.std.proofs.Common.{◌≡◌, ℕ, Some, sym, ap, ◌∙◌, arith}
use Rattle.gl_memory.specs.ClientMemory.{memory_of}
use Rattle.gl_tracked.specs.Indices.{indices_at}
use Rattle.array_capture.specs.Pieces.{ends_of}
use Rattle.array_capture.proofs.Naming.{ends_of-first, ends_of-next, ends_of-none, wider}
use Rattle.array_capture.proofs.elements.ends_named.Goals as goal

pub returns-then-count-eq0-clause-ends : goal.returns-then-count-eq0-clause-ends
returns-then-count-eq0-clause-ends c =
    let none : c.args.count ≡ 0 = omega (arith, c.if-count-eq0.true) in
    let memory = memory_of c.args.memory.now in
    ends_of-none memory c.args.kind c.args.indices ∙ ap (λ (n : ℕ). ends_of (indices_at memory c.args.kind c.args.indices n)) (sym none)

pub loop-number-init : goal.loop-number-init
loop-number-init c =
    record {
      found = ends_of-first (memory_of c.args.memory.now) c.args.kind c.args.indices c.index_numbered-first.result c.index_numbered-first.ensures.index;
      order = omega arith;
    }

pub loop-number-preserved : goal.loop-number-preserved
loop-number-preserved c =
    let least = c.min.ensures in
    let greatest = c.max.ensures in
    let memory = memory_of c.args.memory.now in
    let widened : wider c.loop-number.ends c.index_numbered-index.result ≡ record { least = c.min.result; greatest = c.max.result } = cc in
    record {
      found = ap Some (sym widened)
          ∙ ends_of-next memory c.args.kind c.args.indices c.loop-number.ends c.loop-number.number c.index_numbered-index.result
          c.loop-number.invariant.found c.index_numbered-index.ensures.index;
      order = omega (arith, c.loop-number.invariant.order, least, greatest);
    }
