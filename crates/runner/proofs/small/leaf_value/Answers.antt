-- A variable's cell, or a constant's four bytes.
use Rattle.runner.proofs.Smalls.{variable_fits, variable_cell, constant_fits, leaf_variable, leaf_constant}
use Rattle.runner.proofs.small.leaf_value.Goals as goal

pub bounds-book-at-then-book-at-eq17 : goal.bounds-book-at-then-book-at-eq17
bounds-book-at-then-book-at-eq17 c = search variable_fits

pub bounds-work-x : goal.bounds-work-x
bounds-work-x c = search variable_cell

pub returns-then-book-at-eq17 : goal.returns-then-book-at-eq17
returns-then-book-at-eq17 c = search leaf_variable

pub constant-requires : goal.constant-requires
constant-requires c = search constant_fits

pub returns : goal.returns
returns c = search leaf_constant
