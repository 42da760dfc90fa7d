-- The effect of a call that writes a text to a borrowed sink.
use Rattle.std.specs.Prelude.{ℕ, ◌≡◌, ◌≤◌, List, Result, OnOk, OnErr}
use Rattle.far_io.specs.Bytes.{Rose, Added, AddedPrefix}
use Rattle.far_io.specs.declared.sink.Sink.{Ghosts}

-- On `Ok` the sink added the whole text. After an error it added a prefix, perhaps the whole text, and its count of faults rose.
pub record Writes {K E : Type 0} (sink : Ghosts K) (old new : K) (text : List ℕ) (result : Result (Unit {0}) E) : Type 0 where
  pub ok : OnOk result (Added (sink.held old) (sink.held new) text)
  pub prefix : OnErr result (AddedPrefix (sink.held old) (sink.held new) text)
  pub cause : OnErr result (Rose (sink.faults old) (sink.faults new))
  pub later : sink.faults old ≤ sink.faults new
  pub fixed : sink.fixed new ≡ sink.fixed old
