-- One answer: no two answers, nor two contents of lent memory, meet a public contract.
use mathlib.Core.Path.{◌≡◌}
use mathlib.Core.List.{List}
use Prim.Native.Nat.{ℕ}
use Rattle.meaning.specs.Entries.{Reads, Runs, Checks, FindsIn, Reports}

pub one_read : {book : List ℕ} {r s r' s' : ℕ} → Reads book r s → Reads book r' s' → (r ≡ r') × (s ≡ s')
one_read x y = (cc (x.refusal_is, y.refusal_is), cc (x.size_is, y.size_is))

pub one_run : {book : List ℕ} {p : ℕ} {inputs : List ℕ} {budget : ℕ} {work : List ℕ} {r e v s r' e' v' s' : ℕ} {w w' : List ℕ} →
    Runs book p inputs budget work r e v s w → Runs book p inputs budget work r' e' v' s' w' →
    (r ≡ r') × (e ≡ e') × (v ≡ v') × (s ≡ s') × (w ≡ w')
one_run x y =
    (cc (x.refusal_is, y.refusal_is), cc (x.ending_is, y.ending_is), cc (x.value_is, y.value_is), cc (x.steps_is, y.steps_is), cc (x.work_is, y.work_is))

pub one_check : {book summary : List ℕ} {r r' : ℕ} → Checks book summary r → Checks book summary r' → r ≡ r'
one_check x y = cc (x.refusal_is, y.refusal_is)

pub one_find : {book buffer : List ℕ} {r s n r' s' n' : ℕ} {w w' : List ℕ} →
    FindsIn book buffer r s n w → FindsIn book buffer r' s' n' w' → (r ≡ r') × (s ≡ s') × (n ≡ n') × (w ≡ w')
one_find x y =
    (cc (x.refusal_is, y.refusal_is), cc (x.size_is, y.size_is), cc (x.rounds_is, y.rounds_is), cc (x.buffer_is, y.buffer_is))

pub one_level : {book table : List ℕ} {p : ℕ} {ls summary : List ℕ} {r l r' l' : ℕ} →
    Reports book table p ls summary r l → Reports book table p ls summary r' l' → (r ≡ r') × (l ≡ l')
one_level x y = (cc (x.refusal_is, y.refusal_is), cc (x.level_is, y.level_is))
