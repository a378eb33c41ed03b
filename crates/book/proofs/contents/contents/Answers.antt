-- `contents` meets its contract.
use Rattle.book.proofs.Laws.Contents.{contents_none, contents_many, contents_short, contents_turns}
use Rattle.book.proofs.contents.contents.Goals as goal

pub returns-then-count-lt1 : goal.returns-then-count-lt1
returns-then-count-lt1 c = search contents_none

pub returns-then-count-gt-MOST_PROCEDURES : goal.returns-then-count-gt-MOST_PROCEDURES
returns-then-count-gt-MOST_PROCEDURES c = search contents_many

pub returns-then-book-count : goal.returns-then-book-count
returns-then-book-count c = search contents_short

pub returns : goal.returns
returns c = search contents_turns
