-- `along::links::Links::onward` meets its contract. Assumes nothing.
use mathlib.Core.Path.{refl, ap, ap₂, ◌∙◌}
use Prim.Native.Nat.{ℕ, ◌-◌}
use native.Mathlib.Omega.{arith}
use borrow.Author.Rules.{rules}
use lib.ListN.{replicate}
use Rattle.sets.specs.declared.set.Set.{Set}
use Rattle.along.proofs.Linking.{place_of, near_is}
use Rattle.along.proofs.Stocks.{went, laid_wrote, linked_inside, pool_inside, pool_long, stock_none, stock_more}
use Rattle.along.proofs.links.Links.onward.Goals as goal

pub returns-then-last-clause-went : goal.returns-then-last-clause-went
returns-then-last-clause-went c = went (search rules) (rw c.guide-guide.ensures.pattern at c.resume.ensures)

pub returns-then-end-gt-POOL-clause-stocked : goal.returns-then-end-gt-POOL-clause-stocked
returns-then-end-gt-POOL-clause-stocked c =
    let stock = c.requires.stock in
    stock_none _ _ _ (c.fill.ensures.after (λ y e. e) ∙ ap₂ (λ (n : ℕ) (s : Set). replicate n s) stock.all_keys c.empty.ensures.is_none) stock.all_links (pool_long stock c.requires.linked.placed (rw c.guide-guide.ensures.pattern at c.resume-u.ensures)) refl

pub keep-requires-clause-in_pool : goal.keep-requires-clause-in_pool
keep-requires-clause-in_pool c =
    let asked = c.requires in
    (omega (arith, c.if-end-gt-POOL.false, c.after-end.ensures.counted), pool_inside asked.stock asked.linked.placed (rw c.guide-guide.ensures.pattern at c.resume-u.ensures) asked.linked.few_positions)

pub returns-clause-went : goal.returns-clause-went
returns-clause-went c =
    let end = c.after-end.ensures.counted in
    let asked = c.requires in
    let gone = rw c.guide-guide.ensures.pattern at c.resume-u.ensures in
    let long = pool_long asked.stock asked.linked.placed gone in
    record {
      wrote = λ e held inside.
          rw (c.if-last.false, c.keep.ensures.step)
          (laid_wrote _ (gone.wrote e 0 0 held (omega arith, omega arith)) (omega (arith, c.if-end-gt-POOL.false, end, long)) (ap (λ (m : ℕ). m - c.args.self.now.used) end) c.copy.ensures);
    }

pub returns-clause-stocked : goal.returns-clause-stocked
returns-clause-stocked c =
    let asked = c.requires in
    let given = c.args in
    stock_more asked.stock asked.linked.placed (rw c.guide-guide.ensures.pattern at c.resume-u.ensures) refl c.after-end.ensures.counted (omega (arith, c.if-end-gt-POOL.false)) (place_of c.kept_at.ensures) (linked_inside asked.linked)
    (λ e held inside. near_is e given.chart.tables.now.follow given.q _ given.goal (asked.charted.follow e held given.q inside) c.meet-near.ensures) c.keep.ensures
