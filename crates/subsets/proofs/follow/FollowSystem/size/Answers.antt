use Rattle.std.proofs.Common.{ℕ, ◌+◌, ◌/◌, get_or, drop, replicate, sym, ap, arith}
use Rattle.std.proofs.lemmas.List.{length-replicate}
use Rattle.machines.specs.Columns.{cell}
use Rattle.subsets.specs.Sets.{moved, marked, followed}
use Rattle.subsets.proofs.Moves.{length_moved, length_marks}
use Rattle.subsets.proofs.follow.FollowSystem.size.Goals as goal

pub returns-clause-lawful : goal.returns-clause-lawful
returns-clause-lawful c =
    let s = c.args.self.now in
    let m = s.back.rows / 32 + 1 in
    record {
      starts = (omega (arith, length_marks (marked s.front.words.now 0) s.dead (replicate m 0), length-replicate {A = ℕ} m 0), s.front.inside.some);
      stays = λ k b h l.
          let a = get_or s.columns.column.now b 0 in (
            omega (
              arith,
              length_marks (marked s.front.words.now (cell s.front.words.now (get_or k 0 0) a)) s.dead (moved s.back.words.now s.dead a (drop 1 k) m s.back.rows),
              length_moved s.back.words.now s.dead a (drop 1 k) m s.back.rows,
            ),
            s.front.inside.cells _ h.1 a (omega (arith, c.requires.0, s.columns.sound.within b l)),
          );
      wide = λ k h. h.0;
      alike = λ k b h l.
          ap (followed s.front.words.now s.back.words.now s.dead m s.back.rows k) (sym (s.columns.sound.back (get_or s.columns.column.now b 0) (s.columns.sound.within b l)));
    }
