use Rattle.std.proofs.Common.{◌+◌, ◌++◌, length, take, drop, arith, ap, ◌∙◌, length-drop}
use Rattle.std.proofs.lemmas.List.{length-take-le}
use Rattle.far_io.specs.Buffer.{BufferedLine}
use Rattle.far_io.proofs.BufferLemmas.{placed-grown, pending-kept, pending-grown, fills-failed}
use Rattle.far_io.proofs.buffer.LineBuffer.read.Goals as goal

pub invariant_of-self : goal.invariant_of-self
invariant_of-self g c =
    placed-grown _ _ _ _ _ c.self.invariant c.deref_mut.ensures.value c.read_behind.ensures.before c.read_behind.ensures.same c.deref_mut.ensures.len 0 _
    (omega arith) (omega (arith, c.self.invariant.pending_in))

pub returns-in_err-n-clause-fills : goal.returns-in_err-n-clause-fills
returns-in_err-n-clause-fills g c =
    fills-failed _ _ _ _ _ _ c.from_residual.result c.from_residual.ensures.0
    (pending-kept _ _ _ _ _ c.self.invariant c.deref_mut.ensures.value c.read_behind.ensures.before c.read_behind.ensures.same c.deref_mut.ensures.len
    ∙ ap (λ (b : BufferedLine). b.pending) c.self.view_is)
    c.in_err-n.ensures.failed c.in_err-n.ensures.cause

pub invariant_of-self-2 : goal.invariant_of-self-2
invariant_of-self-2 g c =
    placed-grown _ _ _ _ _ c.self.invariant c.deref_mut.ensures.value c.read_behind.ensures.before c.read_behind.ensures.same c.deref_mut.ensures.len c.in_ok-n.n _
    (omega arith) (omega (arith, c.in_ok-n.ensures.count, ap length c.deref_mut.ensures.value))

pub returns-clause-fills : goal.returns-clause-fills
returns-clause-fills g c = record {
  bytes = take c.in_ok-n.n (drop (c.self.inside.from + c.self.inside.count) c.read_behind.new.bytes);
  count =
      length-take-le c.in_ok-n.n (drop (c.self.inside.from + c.self.inside.count) c.read_behind.new.bytes)
      (omega (arith, length-drop (c.self.inside.from + c.self.inside.count) c.read_behind.new.bytes, c.in_ok-n.ensures.count, c.read_behind.ensures.same));
  few = c.in_ok-n.ensures.few;
  took = c.in_ok-n.ensures.taken;
  kept =
      pending-grown _ _ _ _ _ c.self.invariant c.deref_mut.ensures.value c.read_behind.ensures.before c.read_behind.ensures.same c.deref_mut.ensures.len c.in_ok-n.n
      ∙ ap (λ (b : BufferedLine). b.pending ++ take c.in_ok-n.n (drop (c.self.inside.from + c.self.inside.count) c.read_behind.new.bytes)) c.self.view_is;
  end = c.in_ok-n.ensures.end;
}
