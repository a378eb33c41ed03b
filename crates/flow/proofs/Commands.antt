-- What the laws of all commands share.
use mathlib.Core.Path.{◌≡◌, sym, ap, ◌∙◌}
use Prim.Native.Nat.{ℕ, ◌+◌, ◌*◌}
use native.Mathlib.Nat.{mul-add, add_assoc}
use native.Mathlib.Omega.{arith}
use lib.ListN.{length}
use Rattle.meaning.specs.Tree.{loops}
use Rattle.meaning.specs.Flow.{after, needs, grow}
use Rattle.meaning.proofs.Needs.{length_grow}
use Rattle.book.proofs.Text.{RunHere}
use Rattle.book.proofs.Views.Bounds.{cmd_spans}
use Rattle.meaning.specs.Reading.{Scope}
use mathlib.Core.List.{List}
use Rattle.flow.specs.Rows.{Wide}
use Rattle.flow.specs.Walks.{Going, Standing, CmdAt, rules, used, Ready, CmdPre, CmdPost}

-- The same run, where its place is told otherwise.
abbrev pub run_moved : {b : List ℕ} {v : Scope} {r q i j : ℕ} → r ≡ q → i ≡ j → RunHere b v q j → RunHere b v r i
run_moved {b} {v} d e x = record { tree = x.tree; next = x.next; is = rw (d, e) x.is }

-- The rows of two parts, one after the other.
pub rows_both : (r w a c : ℕ) → r + w * (a + c) ≡ r + w * a + w * c
rows_both r w a c = rw mul-add (sym (add_assoc r (w * a) (w * c)))

-- The walk stands elsewhere, over a new summary of the same size.
pub ready_on : {G : Going} {S T : Standing} → Ready G S → length T.new ≡ length S.new → Wide T.sets → Ready G T
ready_on p e h = record { contents = p.contents; narrow = p.narrow; wide = h; sized = e ∙ p.sized }

-- What a command does, and so where the walk stands.
pub cmd_post : {G : Going} {g : ℕ} {S T : Standing} → CmdPre G S → Wide T.sets →
    ((x : CmdAt G S) → T.new ≡ grow S.new (needs x.tree (rules G) (used G S) g)) →
    ((x : CmdAt G S) → used G T ≡ after x.tree (rules G) (used G S) g) →
    ((x : CmdAt G S) → T.at ≡ x.next) →
    ((x : CmdAt G S) → T.row ≡ S.row + G.width * loops x.tree) → CmdPost G g S T
cmd_post {G} {g} {S} {T} p h a s e q =
    let n = cmd_spans p.here in
    let m = e p.here in
    record {
      wide = h;
      added = a;
      sets = s;
      ends = e;
      rows = q;
      long = ap length (a p.here) ∙ length_grow S.new (needs p.here.tree (rules G) (used G S) g);
      on = omega arith;
      inside = omega arith;
    }
