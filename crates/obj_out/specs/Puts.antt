-- The effect of the calls of an `Out`: the one that begins it, each that puts a text, and the one that ends it.
use Rattle.std.specs.Prelude.{ℕ, ◌≡◌, ◌≤◌, ◌↔◌, ◌⊎◌, [], false, List, Result, IsTrue, IsErr, OnOk, OnErr}
use Rattle.std.specs.Borrow.{GName}
use Rattle.far_io.specs.Bytes.{Rose, Added, AddedPrefix}
use Rattle.far_io.specs.declared.sink.Sink.{Ghosts}
use Rattle.far_io.specs.declared.sink.WriteFailed.{WriteFailed}
use Rattle.obj_out.specs.TextSoFar.{IsPut}
use Rattle.obj_out.specs.declared.put.Out.{Out}

-- The `Out` keeps the sink with this name unchanged. Nothing waits, and no call has failed.
pub record Begins {K : Type 0} (out : Out K) (name : GName) (start : K) : Type 0 where
  pub same_reference : out.sink.ghost_name ≡ name
  pub same : out.sink.now ≡ start
  pub empty : out.waiting ≡ []
  pub fine : out.failed ≡ false

-- A call puts a text: the `Out` keeps the sink and appends the text to the text so far. The call fails exactly if `failed` is set
-- afterwards. After a failed call every call fails and leaves the sink unchanged.
pub record Puts {K : Type 0} (sink : Ghosts K) (old new : Out K) (text : List ℕ) (result : Result (Unit {0}) WriteFailed) : Type 0 where
  pub same_reference : new.sink.ghost_name ≡ old.sink.ghost_name
  pub put : IsPut (sink.held old.sink.now) old.waiting text result (sink.held new.sink.now) new.waiting
  pub failed : IsErr result ↔ IsTrue new.failed
  pub cause : OnErr result (IsTrue old.failed ⊎ Rose (sink.faults old.sink.now) (sink.faults new.sink.now))
  pub stuck : IsTrue old.failed → IsErr result × (new.sink.now ≡ old.sink.now)
  pub later : sink.faults old.sink.now ≤ sink.faults new.sink.now
  pub fixed : sink.fixed new.sink.now ≡ sink.fixed old.sink.now

-- The waiting text goes to the sink, whose value at the end is `final`.
pub record Ends {K : Type 0} (sink : Ghosts K) (out : Out K) (final : K) (result : Result (Unit {0}) WriteFailed) : Type 0 where
  pub whole : OnOk result (Added (sink.held out.sink.now) (sink.held final) out.waiting)
  pub prefix : OnErr result (AddedPrefix (sink.held out.sink.now) (sink.held final) out.waiting)
  pub cause : OnErr result (IsTrue out.failed ⊎ Rose (sink.faults out.sink.now) (sink.faults final))
  pub stuck : IsTrue out.failed → IsErr result × (final ≡ out.sink.now)
  pub later : sink.faults out.sink.now ≤ sink.faults final
  pub fixed : sink.fixed final ≡ sink.fixed out.sink.now
