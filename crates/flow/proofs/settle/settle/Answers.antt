-- One round from all sets empty, and where it adds something, the others.
use Rattle.flow.proofs.Settles.{settle_small, settle_once, settle_others, settle_stored}
use Rattle.flow.proofs.settle.settle.Goals as goal
use Rattle.flow.proofs.settle.settle.Goals.{else-same, then-same}

pub store-requires : goal.store-requires
store-requires c = elim c.if-same.branch [ then-same w ↦ search settle_small | else-same w ↦ search settle_small ]

pub returns : goal.returns
returns c = elim c.if-same.branch [ then-same w ↦ search (settle_stored, settle_once) | else-same w ↦ search (settle_stored, settle_others) ]

pub same-requires : goal.same-requires
same-requires c = search settle_small
