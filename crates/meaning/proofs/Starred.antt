-- The eight starred cases: the definitions give every row of the table. It stands first, so that a changed definition meets it before any theorem.
use mathlib.Core.Path.{refl}
use Rattle.meaning.specs.Lists.{each, fold, every, some_below}
use Rattle.meaning.specs.Sets.{empty, single, union, member, inside, upto, gather}
use Rattle.meaning.specs.Tree.{loops, loops_of, placed, placed_of}
use Rattle.meaning.specs.Reading.{more, and_then, next, passing, expr_form, constant_at, arguments, expr_of, expr, until, run, cmd_form, cmd_of, command}
use Rattle.meaning.specs.Reading.{last_form, closes, last_of, closing, body, entries, in_turn, contents, arities, body_of, bodies, loops_all, placed_all, few_loops, whole_bodies, read}
use Rattle.meaning.specs.Running.{yield, bind, tick, choose, truth, quotient_of, operate, value, turns, act, finish, runs}
use Rattle.meaning.specs.Flow.{row, arriving, joined, flow, after, needs, ends, at, start_sets, demands_from, demands, meets, row_limits, limits, size, legal, satisfies, grow, rounds, most_rounds, find}
use Rattle.meaning.specs.Levels.{join, pairs, shaped, closed, idempotent, commutative, associative, is_bottom, valid, bottom, at_or_below, reported}
use Rattle.meaning.specs.Answers.{ending_number, ran, run_of, no_run, cleared, run_book, run_answer, check_book, check_answer, no_find, find_book, find_answer}
use Rattle.meaning.specs.Answers.{no_level, fitting, level_of, level_book, level_answer, digits, decimal, lines, listing}
use Rattle.meaning.specs.Worked.{EveryRow}
use Rattle.meaning.specs.Promises.{Finds, written}

-- To unfold this is to unfold the entries' definitions.
unfoldable pub computed : Unit {0}
unfolding each fold every some_below empty single union member inside upto gather loops loops_of placed placed_of more and_then next passing expr_form constant_at arguments expr_of expr until run cmd_form cmd_of command last_form closes last_of closing body entries in_turn contents arities body_of bodies loops_all placed_all few_loops whole_bodies read yield bind tick choose truth quotient_of operate value turns act finish runs row arriving joined flow after needs ends at start_sets demands_from demands meets row_limits limits size legal satisfies grow rounds most_rounds find join pairs shaped closed idempotent commutative associative is_bottom valid bottom reported ending_number ran run_of no_run cleared run_book run_answer check_book check_answer no_find find_book find_answer no_level fitting level_of level_book level_answer digits decimal lines listing at_or_below Finds written
computed = tt

pub every_row : EveryRow
unfolding computed
every_row = refl
