-- `new` makes a value of no bytes, and clauses see no bytes in it. Assumes `Logic`.
use Rattle.std.proofs.Common.{[], ◌∷◌, refl, ◌≡◌}
use mir.Val.{vstruct, vnil}
use base.Fml.{ftrue}
use types.Kit.{‵, raw, ◌⊛◌, ◌$◌, ◌∵◌, !, qed, by, keep, split, use0}
use types.Run.{enter, returns, no_more}
use types.ByLocal.{alloc_all, pass_all, free_all, look_at, sets}
use types.Part.{agg}
use contract.Running.{tables}
use contract.Monad.{fact, fact_i}
use base.Logic.{emp}
use denote.Shadow.{makes_shadow}
use denote.Triple.Walked.{Stays}
use Rattle.std.proofs.raw_atomic.Walks.{proved_at, leaves}
use Rattle.memory_streams.specs.contracts.written.Written.{the_row as R}
use Rattle.memory_streams.specs.contracts.written.Written.new as f
use Rattle.memory_streams.proofs.written.Written.new.Statement.{statement}
use Rattle.memory_streams.proofs.written.Written.new.Code as code

abbrev stayed : Stays f.ended.signature.params f.ended.kept
stayed = tt

abbrev made : R.Denot
made = record { bytes = [] }

pub new_spec : {M : Type 1} → statement M
new_spec 𝓤 𝓛 𝓜 𝓡 wired =
    let c = f.clauses 𝓛 𝓜.mem 𝓡.returns in let 𝓣 = tables 𝓤 𝓛.H 𝓜 𝓡 𝓡.env in
    proved_at 𝓛 f.ended stayed c 𝓜 𝓡 tt f.Key.name code.function (code.unfolded 𝓤 𝓛.H 𝓜 𝓡 wired) (λ z are.
    qed 𝓛 ((‵ ftrue ⊛ ‵ ftrue) ∷ ‵ ftrue ∷ []) ∵ split ! $
    enter ! 𝓣.C 𝓣.Λ code.function [] _ $ alloc_all ! (λ l. pass_all ! refl tt $
    sets ! (agg ! (no_more !)) refl (tt, tt) $
    use0 𝓛 (‵ (R.own_val made (vstruct vnil ∷ []))) (makes_shadow 𝓛 (R.own_val made (vstruct vnil ∷ [])) ((λ _. (tt, tt)), tt) ((tt, (refl, tt)), tt)) $
    use0 𝓛 (raw (fact 𝓤 (made.bytes ≡ []))) (fact_i 𝓤 (made.bytes ≡ []) (emp 𝓤) refl) $
    returns ! (look_at ! 0 refl) $ free_all ! refl $ keep ! (2 ∷ 3 ∷ 1 ∷ 0 ∷ []) $ by ! (leaves 𝓛 f.ended stayed c z (vstruct vnil) made tt tt)))
