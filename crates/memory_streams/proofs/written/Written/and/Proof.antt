-- `and` makes a value of no bytes, and clauses see the bytes of both in it. Assumes `Logic`.
use Rattle.std.proofs.Common.{List, [], ◌∷◌, ◌++◌, refl, ◌≡◌}
use mir.Syntax.{named}
use mir.Val.{Val, vstruct, vnil}
use base.Fml.{ftrue}
use base.Logic.{emp}
use types.Kit.{‵, raw, ◌⊛◌, ◌$◌, ◌∵◌, !, qed, by, keep, drop, split, fsplit, fjoin, move, use0}
use types.Run.{enter, returns, no_more}
use types.ByLocal.{alloc_all, pass_all, free_all, look_at, sets}
use types.Part.{agg}
use contract.Running.{tables}
use contract.Monad.{fact, fact_i}
use denote.Builtin.{RefOf, u8}
use denote.Exit.{yes}
use denote.RattleType.{owns}
use denote.Ref.{shr_vals, shr_Tells}
use denote.Shadow.{makes_shadow}
use denote.Signature.{plain, types_at}
use denote.Slice.{shr_slice_vals, shr_slice_Tells}
use denote.Steps.{nothing}
use denote.Triple.Entry.{alive}
use denote.Triple.Walked.{Stays, stay_dropped, Goes-dropped, stay_none_slice, Goes-none_slice, walk_of}
use Rattle.std.proofs.raw_atomic.Walks.{proved, leaves}
use Rattle.memory_streams.specs.contracts.written.Written.{the_row as R}
use Rattle.memory_streams.specs.contracts.written.Written.and as f
use Rattle.memory_streams.proofs.written.Written.and.Statement.{statement}
use Rattle.memory_streams.proofs.written.Written.and.Code as code

abbrev stayed : Stays f.ended.signature.params f.ended.kept
stayed = (stay_dropped (RefOf (0 ∷ []) tt (plain (λ _. R)) (λ _. tt)) yes, (stay_none_slice (1 ∷ []) tt (plain (λ _. u8)) yes, tt))

pub and_spec : {M : Type 1} → statement M
and_spec 𝓤 𝓛 𝓜 𝓡 wired =
    let c = f.clauses 𝓛 𝓜.mem 𝓡.returns in let 𝓣 = tables 𝓤 𝓛.H 𝓜 𝓡 𝓡.env in
    proved 𝓛 f.ended stayed c 𝓜 𝓡
    (Goes-dropped 𝓛 2 (RefOf (0 ∷ []) tt (plain (λ _. R)) (λ _. tt)) yes (λ κs x g. refl), (Goes-none_slice 𝓛 2 (1 ∷ []) tt (plain (λ _. u8)) yes, tt))
    f.Key.name code.function (code.unfolded 𝓤 𝓛.H 𝓜 𝓡 wired)
    (λ κs. (shr_vals, (shr_slice_vals, tt))) (λ κs. (shr_Tells (named 0) κs.0 R, (shr_slice_Tells (named 1) κs.1.0 u8, tt)))
    (λ κs qs bounds a g are.
    let made : R.Denot = record { bytes = a.0.now.bytes ++ a.1.0.now } in
    let vs : List Val = vstruct vnil ∷ [] in
    let z : (walk_of 𝓛 f.ended stayed c).Ghost = ((κs, qs, bounds, a, (shr_vals a.0, (shr_slice_vals a.1.0, tt))), g) in
    qed 𝓛 ((raw (alive 𝓛 f.signature κs qs) ⊛ ‵ (owns (types_at f.signature.params κs) a z.0.4)) ∷ ‵ ftrue ∷ []) ∵ split ! $
    enter ! 𝓣.C 𝓣.Λ code.function (shr_vals a.0 ++ shr_slice_vals a.1.0) _ $
    alloc_all ! (λ l. pass_all ! refl ((tt, tt), ((tt, (tt, (record { fits = are.1.0.0.1.0 }, tt))), tt)) $
    sets ! (agg ! (no_more !)) refl (tt, tt) $
    returns ! (look_at ! 0 refl) $ free_all ! refl $
    keep ! (0 ∷ 1 ∷ []) $
    use0 𝓛 (‵ (R.own_val made vs)) (makes_shadow 𝓛 (R.own_val made vs) ((λ _. (tt, tt)), tt) ((tt, (refl, tt)), tt)) $
    use0 𝓛 (raw (fact 𝓤 (made.bytes ≡ a.0.now.bytes ++ a.1.0.now))) (fact_i 𝓤 (made.bytes ≡ a.0.now.bytes ++ a.1.0.now) (emp 𝓤) refl) $
    move ! (3 ∷ []) $ fsplit ! $ drop ! $ nothing ! $ fjoin ! $
    keep ! (3 ∷ 0 ∷ 2 ∷ 1 ∷ []) $ by ! (leaves 𝓛 f.ended stayed c z (vstruct vnil) made (tt, (tt, tt)) (tt, (tt, tt)))))
