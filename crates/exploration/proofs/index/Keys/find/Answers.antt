use Rattle.std.proofs.Common.{◌≡◌, ℕ, ◌∙◌, arith}
use Rattle.std.proofs.lemmas.Slice.Eq.{slice_eq-Decides}
use Rattle.exploration.specs.Keys.{key_at}
use Rattle.exploration.proofs.Buckets.{chain_on}
use Rattle.exploration.proofs.index.Keys.find.Goals as goal
use Rattle.std.proofs.lemmas.Bool.Decides.{Decides-eqb}

pub loop-next-preserved : goal.loop-next-preserved
loop-next-preserved c =
    let s = c.args.self in
    let w = c.loop-next.invariant in
    let q = chain_on 4096 (key_at s.words.now s.size) s.count s.heads.now s.links.now s.indexed c.loop-next.next c.args.key.now c.loop-next-test.true w.within w.here w.past
    (λ e. let t = (slice_eq-Decides Decides-eqb _ _ _ c.eq.ensures).1 (c.at.ensures.0 ∙ e) in let z : ◌≡◌ {A = ℕ} 0 1 = cc in omega arith) in
    record { within = q.0; here = q.1; past = q.2 }
