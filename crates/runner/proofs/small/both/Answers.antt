-- Two leaves, and the operation on their values.
use Rattle.std.proofs.Common.{arith}
use Rattle.runner.proofs.Smalls.{both_fits, first_there, first_leaf, second_there, second_leaf, small_both, ok_small}
use Rattle.runner.proofs.small.both.Goals as goal

pub bounds-book-at : goal.bounds-book-at
bounds-book-at c = search first_there

pub leaf_end-mid-requires : goal.leaf_end-mid-requires
leaf_end-mid-requires c = search first_leaf

pub bounds-book-mid : goal.bounds-book-mid
bounds-book-mid c = search second_there

pub leaf_value-a-requires : goal.leaf_value-a-requires
leaf_value-a-requires c = search first_leaf

pub leaf_value-b-requires : goal.leaf_value-b-requires
leaf_value-b-requires c = search second_leaf

pub bounds-book-at-2 : goal.bounds-book-at-2
bounds-book-at-2 c = search both_fits

pub returns : goal.returns
returns c = rw c.ok.ensures.value (ok_small c.operate.result (search (small_both, arith)))
