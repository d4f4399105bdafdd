use Rattle.std.proofs.Common.{Option, Some, None, Ok, Err, ℕ, List, Result, ◌≡◌, IsErr, IsErrAnd, length, refl, sym, subst, arith, length-take}
use Rattle.std.specs.Bool.{⊤}
use Rattle.std.specs.Option.{ok_or}
use Rattle.machines.specs.Words.{Word}
use Rattle.patterns.specs.declared.direct.SearchError.{SearchError}
use Rattle.patterns.specs.declared.direct.SearchError.TheVariants.{NoList}
use Rattle.patterns.specs.Promises.{ListRead, SearchedPost}
use Rattle.patterns.proofs.Cutting.{meaning}
use Rattle.patterns.proofs.Ending.{searching_more, searching_all}
use Rattle.patterns.proofs.direct.search.Goals as goal

-- no list, whatever the way to say so
refused : (s : List ℕ) (w : Word) (o : List ℕ) (r : Option ℕ) (e : SearchError) (x : Result ⊤ SearchError) → ListRead s r → ◌≡◌ {A = Result ℕ SearchError} (Err e) (ok_or r NoList) → IsErr x
    → IsErrAnd x (λ y. y ≡ e) → SearchedPost s w o o x
refused s w o (Some k) e x l h i a = absurd (let z : ◌≡◌ {A = ℕ} 0 1 = cc in omega arith)
refused s w o None e (Ok d) l h i a = absurd a
refused s w o None e (Err y) l h i a =
    let same : y ≡ NoList = cc in
    subst (λ (z : SearchError). SearchedPost s w o o (Err z)) (sym same) record { says = (l.says, refl); meaning = meaning }

pub returns-in_err-ok_or : goal.returns-in_err-ok_or
returns-in_err-ok_or c =
    refused c.args.list.now c.args.text.now c.args.ends.now c.read_list.result c.in_err-ok_or.field-0.0 c.from_residual.result c.read_list.ensures c.in_err-ok_or.ensures.value c.from_residual.ensures.0
    c.from_residual.ensures.1

pub returns-then-ends-text : goal.returns-then-ends-text
returns-then-ends-text c =
    let l = (subst (ListRead c.args.list.now) c.in_ok-ok_or.ensures.ok_part c.read_list.ensures).says in
    record { says = ((l.0, l.1), c.if-ends-text.true, refl); meaning = meaning }

pub loop-i-preserved : goal.loop-i-preserved
loop-i-preserved c = searching_more _ (omega (arith, length-take (length c.args.text.now) c.args.ends.now)) (omega (arith, length-take (length c.args.text.now) c.args.ends.now)) c.bits_after.ensures c.loop-i.invariant

pub returns : goal.returns
returns c =
    let l = (subst (ListRead c.args.list.now) c.in_ok-ok_or.ensures.ok_part c.read_list.ensures).says in
    let a = searching_all _ (omega (arith, length-take (length c.args.text.now) c.args.ends.now)) (omega (arith, length-take (length c.args.text.now) c.args.ends.now)) c.loop-i.invariant l.0 l.1 in
    record { says = (l.0, l.1, a.0, a.1); meaning = meaning }
