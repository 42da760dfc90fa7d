-- The obligations of a command at each of its ends.
use Rattle.std.proofs.Common.{◌≡◌, ℕ, ◌+◌, ◌≤◌, Result, Ok, Err, IsErr, IsErrAnd, IsOkAnd, IfOk, OnOk, MatchResult, sym, subst}
use Rattle.far_model.specs.Command.{ReadCommand, MakeCommand}
use Rattle.subdiv_model.specs.ObjMesh.{ObjMesh}
use Rattle.ratio128.specs.StepsTaken.{StepsTaken}
use Rattle.far_text.specs.declared.reply.Reply.{Reply}
use Rattle.far_fault.specs.View.{fault_of}
use Rattle.far_fault.specs.declared.fault.FarFault.{FarFault}
use Rattle.mesh_answers.specs.Refusals.{IsFound, refusal_of_mesh, refusal_of_made}
use Rattle.mesh_answers.specs.Replies.{IsAnswerTo, IsMadeAnswer, IsMadeReply, IsReplyTo}
use Rattle.mesh_answers.specs.StepCounts.{least_steps, step_limit, made_least, made_limit}

-- a call that fails took no more steps than the limit
pub failed-steps : {T E : Type 0} (r : Result T E) (old new least most : ℕ) → IsErr r → old ≤ new → new ≤ old + most → StepsTaken r old new least most
failed-steps (Ok x) old new least most err later within = absurd (cc)
failed-steps (Err e) old new least most err later within = record { least = tt; most = within; later = later }

-- a call took as many steps as it must in any case
pub any-steps : {T E : Type 0} (r : Result T E) (old new least most : ℕ) → old + least ≤ new → old ≤ new → new ≤ old + most → StepsTaken r old new least most
any-steps (Ok x) old new least most some later within = record { least = some; most = within; later = later }
any-steps (Err e) old new least most some later within = record { least = tt; most = within; later = later }

-- a call took the steps of its part, with which it ends well or ends in a fault
pub good-steps : {T E U F : Type 0} {old new least most : ℕ} (r : Result T E) (x : T) (y : U) → r ≡ Ok x → StepsTaken r old new least most → StepsTaken {T = U} {E = F} (Ok y) old new least most
good-steps {old = old} {new = new} {least = least} r x y ok taken =
    record { least = subst (λ r. OnOk r (old + least ≤ new)) ok taken.least; most = taken.most; later = taken.later }

pub bad-steps : {T E U F : Type 0} {old new least most : ℕ} (r : Result T E) (fault : F) → StepsTaken r old new least most → StepsTaken {T = U} {E = F} (Err fault) old new least most
bad-steps r fault taken = record { least = tt; most = taken.most; later = taken.later }

module _ (command : ReadCommand) (mesh : ObjMesh) (old new : ℕ) (later : old ≤ new) (most : new ≤ old + step_limit command mesh) where
  pub refuses : (r : Result Reply FarFault) (fault : FarFault) → IsErr r → IsErrAnd r (λ g. g ≡ fault) → IsFound (fault_of fault) (refusal_of_mesh command mesh) →
      IsAnswerTo command mesh r old new
  refuses (Ok reply) fault err same found = absurd (cc)
  refuses (Err other) fault err same found = record {
    reply = subst (λ f. IsFound (fault_of f) (refusal_of_mesh command mesh)) (sym same) found;
    steps = record { least = tt; most = most; later = later };
  }

  pub replies : (reply : Reply) → IsReplyTo command mesh reply → old + least_steps command mesh ≤ new → IsAnswerTo command mesh (Ok reply) old new
  replies reply is least = record { reply = is; steps = record { least = least; most = most; later = later } }

-- a reply made from the result of a call
pub replied : {X E : Type 0} (command : ReadCommand) (mesh : ObjMesh) (found : Result X E) (r : Result Reply E) (made : X → Reply) (P : X → Type 0)
    → MatchResult found (λ x. IsOkAnd r (λ reply. reply ≡ made x)) (λ fault. r ≡ Err fault) → IfOk found P
    → ((x : X) → P x → IsReplyTo command mesh (made x)) → IfOk r (IsReplyTo command mesh)
replied command mesh (Ok x) (Ok reply) made P is p answers = subst (IsReplyTo command mesh) (sym is) (answers x p)
replied command mesh (Ok x) (Err fault) made P is p answers = absurd is
replied command mesh (Err fault) r made P same p answers = subst (λ r. IfOk r (IsReplyTo command mesh)) (sym same) tt

module _ (command : MakeCommand) (old new : ℕ) (later : old ≤ new) (most : new ≤ old + made_limit command) where
  pub made-refuses : (r : Result Reply FarFault) (fault : FarFault) → IsErr r → IsErrAnd r (λ g. g ≡ fault) → IsFound (fault_of fault) (refusal_of_made command) →
      IsMadeAnswer command r old new
  made-refuses (Ok reply) fault err same found = absurd (cc)
  made-refuses (Err other) fault err same found = record {
    reply = subst (λ f. IsFound (fault_of f) (refusal_of_made command)) (sym same) found;
    steps = record { least = tt; most = most; later = later };
  }

  pub made-replies : (reply : Reply) → IsMadeReply command reply → old + made_least command ≤ new → IsMadeAnswer command (Ok reply) old new
  made-replies reply is least = record { reply = is; steps = record { least = least; most = most; later = later } }
