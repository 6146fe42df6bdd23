-- `sheet::text::each_change` meets its contract. Assumes nothing.
use native.Mathlib.Omega.{arith}
use Rattle.std.proofs.lemmas.List.{length_push}
use Rattle.std.proofs.lemmas.Slice.Zip.{zip_turn, zip_end}
use Rattle.meaning.specs.Sheet.{change_lines}
use Rattle.tally.specs.Tally.{blank}
use Rattle.lines.proofs.PutsLaws.{puts_none}
use Rattle.sheet.proofs.TextLaws.{puts_changes, changes_all}
use Rattle.sheet.proofs.text.each_change.Goals as goal

pub loop-tonight-init : goal.loop-tonight-init
unfolding change_lines
loop-tonight-init c = record { puts = puts_none _; upper_bound = omega arith }

pub loop-tonight-preserved : goal.loop-tonight-preserved
loop-tonight-preserved c =
    let l = c.loop-tonight in
    let rs = c.args.figures.now in
    let last = c.args.last.now in
    let t = zip_turn rs last l.yielded c.into_iter-tonight-iterator.result l.tonight-iterator c.next.new.self _ (cc) (cc) l.yielded_by _ c.in-Some.is c.next.ensures.steps in
    let more = length_push l.yielded (c.in-Some.tonight, c.in-Some.before) in
    record {
      puts = puts_changes rs last _ t.0 t.1 (t.2 blank) (t.3 0) more l.invariant.puts c.change.ensures.puts;
      upper_bound = omega (arith, more, l.invariant.upper_bound, c.change.ensures.upper_bound);
    }

pub returns : goal.returns
returns c =
    let l = c.loop-tonight in
    let rs = c.args.figures.now in
    let last = c.args.last.now in
    let n = zip_end rs last l.yielded c.into_iter-tonight-iterator.result l.tonight-iterator c.next.new.self _ (cc) (cc) l.yielded_by c.in-None.is c.next.ensures.steps in
    changes_all rs last _ (omega arith) (omega arith) l.invariant.puts
