-- What is no number is none by its length or by one of its bytes; else all digits are read.
use Rattle.std.proofs.Common.{rules, arith, ◌<◌}
use Rattle.audit.specs.Decimal.{most_digits}
use Rattle.audit.proofs.Digits.{upto_none, upto_more, upto_room, upto_all, none_short, none_long, none_low, none_high}
use Rattle.audit.proofs.decimal.parse.Goals.{then-is_empty-via-then-is_empty, then-is_empty-via-else-is_empty+then-text-gt-MOST_DIGITS}
use Rattle.audit.proofs.decimal.parse.Goals as goal

pub returns-then-is_empty : goal.returns-then-is_empty
returns-then-is_empty c = elim c.then-is_empty.branch [
  | then-is_empty-via-then-is_empty w ↦ none_short (search rules)
  | then-is_empty-via-else-is_empty+then-text-gt-MOST_DIGITS w ↦ none_long (search rules)
]

pub loop-b-init : goal.loop-b-init
loop-b-init c = upto_none c.args.text.now

pub returns-in_default : goal.returns-in_default
returns-in_default c = none_low c.loop-b.b-index c.loop-b-test.true (search rules)

pub returns-in_default-2 : goal.returns-in_default-2
returns-in_default-2 c = none_high c.loop-b.b-index c.loop-b-test.true (search rules)

pub overflow_mul-value : goal.overflow_mul-value
overflow_mul-value c =
    let few : c.loop-b.b-index < most_digits = omega arith in
    omega (arith, upto_room c.loop-b.invariant few)

pub overflow_add-value : goal.overflow_add-value
overflow_add-value c =
    let few : c.loop-b.b-index < most_digits = omega arith in
    omega (arith, upto_room c.loop-b.invariant few)

pub loop-b-preserved : goal.loop-b-preserved
loop-b-preserved c = upto_more c.loop-b.invariant (search rules) (search rules) (search rules)

pub returns : goal.returns
returns c = upto_all (search rules) (search rules) c.if-text-gt-MOST_DIGITS.false c.loop-b.invariant
