-- Each loop has kept its laws as far as it has come; a way out by the label has met a law that fails.
use mathlib.Core.Path.{refl}
use native.Mathlib.Omega.{arith}
use borrow.Author.Rules.{rules}
use Rattle.levels.proofs.Upto.{triples_none, triples_more, pairs_none, pairs_more, laws_none, laws_more, laws_all}
use Rattle.levels.proofs.Upto.{one_not_repeats, one_not_stays, one_not_commutes, one_not_associates}
use Rattle.levels.proofs.lawful.Goals as goal

pub loop-a-init : goal.loop-a-init
loop-a-init c = (search rules, search laws_none)

pub loop-b-init : goal.loop-b-init
loop-b-init c = (search rules, search pairs_none)

pub loop-c-init : goal.loop-c-init
loop-c-init c = (search rules, search triples_none)

pub loop-c-preserved : goal.loop-c-preserved
loop-c-preserved c =
    (omega arith, triples_more _ _ _ _ c.loop-c.invariant.1 c.associates.ensures (rw c.if-not-associates.false refl))

pub loop-b-preserved : goal.loop-b-preserved
loop-b-preserved c = (
  omega arith,
  pairs_more _ _ _ _ _ c.count-n.ensures c.loop-b.invariant.1 c.stays.ensures (rw c.if-not-stays.false refl)
      c.commutes.ensures (rw c.if-not-commutes.false refl) c.loop-c.invariant.0 c.loop-c-test.false c.loop-c.invariant.1,
)

pub loop-a-preserved : goal.loop-a-preserved
loop-a-preserved c = (omega arith, search laws_more)

pub returns-after-loop-a : goal.returns-after-loop-a
returns-after-loop-a c = search laws_all

pub returns-then-not-repeats : goal.returns-then-not-repeats
returns-then-not-repeats c = search one_not_repeats

pub returns-then-not-stays : goal.returns-then-not-stays
returns-then-not-stays c = search one_not_stays

pub returns-then-not-commutes : goal.returns-then-not-commutes
returns-then-not-commutes c = search one_not_commutes

pub returns-then-not-associates : goal.returns-then-not-associates
returns-then-not-associates c = search one_not_associates
