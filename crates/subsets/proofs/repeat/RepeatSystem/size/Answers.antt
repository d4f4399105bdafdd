use Rattle.std.proofs.Common.{ℕ, ◌+◌, ◌/◌, get_or, drop, replicate, sym, ap, arith}
use Rattle.std.proofs.lemmas.List.{length-replicate}
use Rattle.subsets.specs.Sets.{moved, accepts, again}
use Rattle.subsets.proofs.Moves.{length_moved, length_marks, length_live}
use Rattle.subsets.proofs.repeat.RepeatSystem.size.Goals as goal

pub returns-clause-lawful : goal.returns-clause-lawful
returns-clause-lawful c =
    let s = c.args.self.now in
    let t = s.table.words.now in
    let m = s.table.rows / 32 + 1 in
    record {
      starts = omega (arith, length_live (replicate m 0) 0 s.dead, length-replicate {A = ℕ} m 0);
      stays = λ k b h l.
          let a = get_or s.columns.column.now b 0 in
          omega (
            arith,
            length_marks (accepts t (moved t s.dead a (drop 1 k) m s.table.rows) s.table.rows) s.dead (moved t s.dead a (drop 1 k) m s.table.rows),
            length_moved t s.dead a (drop 1 k) m s.table.rows,
          );
      wide = λ k h. h;
      alike = λ k b h l. ap (again t s.dead m s.table.rows k) (sym (s.columns.sound.back (get_or s.columns.column.now b 0) (s.columns.sound.within b l)));
    }
