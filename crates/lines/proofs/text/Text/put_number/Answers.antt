-- The digits of a number of one, two and three.
use Rattle.lines.proofs.Laws.{put_one, put_two, put_three}
use Rattle.lines.proofs.text.Text.put_number.Goals as goal

pub returns-then-n-lt10-clause-text : goal.returns-then-n-lt10-clause-text
returns-then-n-lt10-clause-text c = search put_one

pub returns-then-n-lt100-clause-text : goal.returns-then-n-lt100-clause-text
returns-then-n-lt100-clause-text c = search put_two

pub returns-else-n-lt100-clause-text : goal.returns-else-n-lt100-clause-text
returns-else-n-lt100-clause-text c = search put_three
