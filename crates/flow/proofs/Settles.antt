-- The checker's test and the finder's rounds, over arrays that hold summaries: what a round does to the array, it does to the summary.
use mathlib.Core.Path.{◌≡◌, refl, sym, ap, ◌∙◌}
use mathlib.Core.Logic.{inl, inr}
use mathlib.Core.Bool.{Bool, true, false, and-false, and-true}
use mathlib.Core.List.{List}
use Prim.Native.Nat.{ℕ, suc, ◌+◌, ◌*◌, ◌-◌, ◌≤◌, ◌<◌}
use native.Mathlib.Omega.{arith}
use native.Mathlib.Numerals.{add-one}
use lib.ListN.{length, get_or, take, replicate, length-replicate, get_or-replicate}
use lib.Seq.{ext_get_or, get_or-take, length-take-le}
use Rattle.meaning.specs.Limits.{most_procedures, most_parameters}
use Rattle.meaning.specs.Sets.{empty}
use Rattle.meaning.specs.Flow.{Need, at, size, demands, meets, legal, satisfies, grow, rounds, most_rounds, find}
use Rattle.meaning.proofs.Lists.{Tested, holds_or_fails}
use Rattle.meaning.proofs.Pairs.{All, all_mono, all_replicate, all_get_d}
use Rattle.meaning.proofs.Needs.{Placed, length_grow}
use Rattle.meaning.proofs.Places.{laid}
use Rattle.meaning.proofs.Demands.{demands_placed, meets_round}
use Rattle.meaning.proofs.Finder.{rounds_last, rounds_more, length_found}
use Rattle.meaning.proofs.Skipping.{asked, Rest, rest_grow, rest_next, callees_scanned}
use Rattle.meaning.proofs.Elsewhere.{asked_placed, rows_kept}
use Rattle.meaning.proofs.Fronts.{SameSets, demands_front, asked_front, legal_front, woken_front, grow_front}
use Rattle.book.specs.Here.{BookHere}
use Rattle.book.proofs.Sound.{book_facts, size_of}
use Rattle.flow.specs.Copies.{most_places, Holds, Stored, Same}
use Rattle.flow.specs.Rounds.{RoundPost, Begins}
use Rattle.flow.specs.Legality.{LegalPost}
use Rattle.flow.specs.Waking.{walked, named, ScanPost, PassPost, Kept, WakePost}
use Rattle.book.specs.Here.{Sized}
use Rattle.flow.specs.Settling.{SettlePre, SettlePost, SatisfiedPost, LaterPre, LaterPost}

-- The bytes are readable as one book.
pub one_book : {b : List ℕ} (g h : BookHere b) → g.book ≡ h.book
one_book g h = let p = g.is in let q = h.is in cc

pub size_is : {b σ : List ℕ} → SettlePre b σ → (g : BookHere b) → length σ ≡ size g.book
size_is c g = c.sized ∙ ap size (one_book c.book g)

pub settle_small : {b σ : List ℕ} → SettlePre b σ → length σ ≤ most_places
settle_small c = omega (arith, c.sized, size_of c.book)

pub sized_small : {b : List ℕ} {n : ℕ} → Sized b n → n ≤ most_places
sized_small c = omega (arith, c.size_is, size_of c.book)

-- An array and the summary that it holds demand the same; arrays that agree so far as their summaries go hold the same one.
sets : {places σ : List ℕ} → Holds places σ → SameSets places σ
sets h = record { on = h.same }

holds_one : {old new σ τ : List ℕ} → Holds old σ → Holds new τ → length σ ≡ length τ → ((i : ℕ) → i < length σ → at old i ≡ at new i) → σ ≡ τ
unfolding at
holds_one {σ = σ} {τ} h k l e = ext_get_or empty σ τ l (λ i j. sym (h.same i) ∙ e i j ∙ k.same i)

-- All sets empty.
none_at : (n k : ℕ) → at (replicate n 0) k ≡ 0
unfolding at empty
none_at n k = all_get_d {A = ℕ} {P = λ s. s ≡ 0} (all_replicate n 0 refl) k refl

holds_none : (n : ℕ) → Holds (replicate most_places 0) (replicate n 0)
holds_none n = record { wide = length-replicate {A = ℕ} most_places 0; same = λ k. none_at most_places k ∙ sym (none_at n k) }

module _ {b : List ℕ} (g : BookHere b) where
  -- What is added to the array is added to the summary.
  holds_grow : {places σ : List ℕ} {ds : List (Need ℕ)} → Holds places σ → length σ ≡ size g.book → All (Placed (size g.book)) ds →
      Holds (grow places ds) (grow σ ds)
  holds_grow {places} {σ} {ds} h l p =
      record {
        wide = length_grow places ds ∙ h.wide;
        same = (grow_front (sets h) h.wide l (all_mono (λ d q. record { exists = omega (arith, q.exists, size_of g) }) p) p).on;
      }

  -- A round from the array is a round from the summary.
  pub holds_round : {old new σ : List ℕ} → Holds old σ → length σ ≡ size g.book → new ≡ grow old (demands g.book old) →
      Holds new (grow σ (demands g.book σ))
  holds_round {old} {new} {σ} h l e =
      rw (e, demands_front (sets h) g.book) (holds_grow h l (demands_placed (laid b g.is) σ))

  -- So is a round of some bodies, where the others add nothing.
  holds_pass : {new new' σ : List ℕ} {walks : ℕ → Bool} → Holds new σ → length σ ≡ size g.book → Rest g.book walks σ →
      new' ≡ grow new (asked walks g.book new) → Holds new' (grow σ (demands g.book σ))
  holds_pass {new} {new'} {σ} {walks} h l r e =
      rw (e, asked_front (sets h) walks g.book, ← rest_grow r) (holds_grow h l (asked_placed (laid b g.is) walks σ))

  -- The round adds nothing to the summary just where it adds nothing to the array, so far as the summary goes.
  module _ {old new σ : List ℕ} {n : ℕ} (e : n ≡ size g.book) (l : length σ ≡ size g.book) (h : Holds old σ)
      (k : Holds new (grow σ (demands g.book σ))) where
    met_holds : meets σ (demands g.book σ) ≡ true → Holds new σ
    met_holds m = rw ((meets_round (laid b g.is) σ l).0 m) at k

    same_met : ((i : ℕ) → i < n → at old i ≡ at new i) → meets σ (demands g.book σ) ≡ true
    same_met d =
        (meets_round (laid b g.is) σ l).1
        (sym (holds_one h k (sym (length_grow σ (demands g.book σ))) (λ i j. d i (omega arith))))

    met_not : (((i : ℕ) → i < n → at old i ≡ at new i) → ⊥) → meets σ (demands g.book σ) ≡ false
    met_not d = go (holds_or_fails (meets σ (demands g.book σ)))
      where
        go : Tested (meets σ (demands g.book σ)) → meets σ (demands g.book σ) ≡ false
        go (inl m) = absurd (d (λ i j. h.same i ∙ sym ((met_holds m).same i)))
        go (inr m) = m

    met_is : {t : Bool} → Same old new n t → t ≡ meets σ (demands g.book σ)
    met_is {t} s = go (holds_or_fails t)
      where
        go : Tested t → t ≡ meets σ (demands g.book σ)
        go (inl p) = p ∙ sym (same_met (s.equal p))
        go (inr p) = p ∙ sym (met_not (s.unequal p))

-- The checker's two tests.
pub satisfied_not : {b σ old : List ℕ} {r : Bool} → Holds old σ → LegalPost b old r → r ≡ false → SatisfiedPost b σ r
unfolding satisfies
satisfied_not {b} {σ} h z e =
    record {
      is = λ g.
          let n : legal g.book σ ≡ false = sym (legal_front (sets h) g.book) ∙ sym (z.is g) ∙ e in
          rw (e, n) (sym (and-false (meets σ (demands g.book σ))));
    }

pub satisfied_same : {b σ old new starts : List ℕ} {r t : Bool} → SettlePre b σ → Holds old σ → RoundPost b old old new starts →
    LegalPost b old r → r ≡ true → Same old new (length σ) t → SatisfiedPost b σ t
unfolding satisfies
satisfied_same {b} {σ} c h z k e s =
    record {
      is = λ g.
          let y : legal g.book σ ≡ true = sym (legal_front (sets h) g.book) ∙ sym (k.is g) ∙ e in
          let l = size_is c g in
          rw y (met_is g l l h (holds_round g h l (z.added g)) s ∙ sym (and-true (meets σ (demands g.book σ))));
    }

-- After n rounds, of which there was one at least: `old` holds the summary before the last of them and `new` the one after it.
-- The rounds that are left end where all of them do, and the last round has left the rows of the procedures that it did not walk.
-- `bound` is the size of the book's summaries: only so many places are compared.
pub record Settling (n : ℕ) (b starts called : List ℕ) (bound most : ℕ) (old new : List ℕ) (walks : List Bool) : Type 0 where
  pub book : BookHere b
  pub bound_is : bound ≡ size book.book
  pub begins : Begins b starts
  pub scanned : ScanPost b called
  pub most_is : most ≡ most_rounds book.book
  pub few : n ≤ most
  pub σ : List ℕ
  pub sized : length σ ≡ size book.book
  pub before : Holds old σ
  pub after : Holds new (grow σ (demands book.book σ))
  pub goes : rounds book.book (most - n) (grow σ (demands book.book σ)) n ≡ find book.book
  pub kept : Kept b old new walks

-- The finder has found this, in any view of the book.
later_post : {b new : List ℕ} {n : ℕ} {σ : List ℕ} (g : BookHere b) → Holds new σ → record { summary = σ; rounds = n } ≡ find g.book →
    LaterPost b new n
later_post {b} {new} {n} {σ} g h e =
    record {
      found = λ f.
          let k : σ ≡ (find f.book).summary = ap (λ x. x.summary) (e ∙ ap find (one_book g f)) in
          rw k at h;
      rounds_are = λ f. ap (λ x. x.rounds) (e ∙ ap find (one_book g f));
    }

-- The first round walks every body.
all_walked : {b : List ℕ} → BookHere b → (σ τ : List ℕ) → Kept b σ τ (replicate most_procedures true)
all_walked g σ τ =
    record {
      rows = λ f p l w k i j.
          let m : p < most_procedures = omega (arith, (book_facts g).few) in
          let y : get_or (replicate most_procedures true) p false ≡ true = get_or-replicate most_procedures p true false m in
          let z : ◌≡◌ {A = ℕ} 0 1 = cc in
          absurd (omega arith);
    }

pub settling_first : {b new starts called : List ℕ} {n : ℕ} → LaterPre b new starts n → ScanPost b called →
    Settling 1 b starts called n (most_parameters * n + 1) (replicate most_places 0) new (replicate most_procedures true)
unfolding find empty most_rounds
settling_first {b} {new} {starts} {called} {n} c s =
    let g = c.sized.book in
    let z = c.sized.size_is in
    let σ : List ℕ = replicate (size g.book) 0 in
    let l : length σ ≡ size g.book = length-replicate (size g.book) 0 in
    let k = holds_none (size g.book) in
    let h = holds_round g k l (c.first g) in
    let e : most_rounds g.book ≡ suc (most_parameters * n + 1 - 1) = omega arith in
    record {
      book = g;
      bound_is = z;
      begins = c.begins;
      scanned = s;
      most_is = rw z;
      few = omega arith;
      σ = σ;
      sized = l;
      before = k;
      after = h;
      goes = rw e (sym (rounds_more g.book (most_parameters * n + 1 - 1) σ 0 (met_not g z l k h c.grown)));
      kept = all_walked g (replicate most_places 0) new;
    }

-- There are no more rounds than most.
pub settling_out : {b starts called old new : List ℕ} {walks : List Bool} {bound most n : ℕ} → Settling n b starts called bound most old new walks → most ≤ n →
    LaterPost b new most
unfolding rounds
settling_out {new = new} {most = most} {n} s l =
    let e : n ≡ most = omega (arith, s.few) in
    let k : most - n ≡ 0 = omega arith in
    rw e at (later_post s.book s.after (rw k at s.goes))

-- The summary after the rounds so far.
abbrev now : {b starts called old new : List ℕ} {walks : List Bool} {bound most n : ℕ} → Settling n b starts called bound most old new walks → List ℕ
now s = grow s.σ (demands s.book.book s.σ)

-- One turn: the next mask, the round of the bodies that it names, and the comparison.
module _ {b starts called old new new' : List ℕ} {walks walks' : List Bool} {bound most n : ℕ} (s : Settling n b starts called bound most old new walks)
    (w : WakePost b old new called walks') (p : PassPost b new new walks' new') where
  -- The bodies that the mask leaves out add nothing: so the round of the others is the whole round.
  turn_rest : Rest s.book.book (walked walks') (now s)
  turn_rest =
      rest_next (laid b s.book.is) (callees_scanned b s.book.is (named called) s.scanned.scanned) s.σ s.sized
      (woken_front (sets s.before) (sets s.after) (w.woken s.book))

  turn_sized : length (now s) ≡ size s.book.book
  turn_sized = length_grow s.σ (demands s.book.book s.σ) ∙ s.sized

  turn_holds : Holds new' (grow (now s) (demands s.book.book (now s)))
  turn_holds = holds_pass s.book s.after turn_sized turn_rest (p.added s.book)

  turn_kept : Kept b new new' walks'
  turn_kept =
      record {
        rows = λ g q l f k i j.
            sym (ap (λ (ρ : List ℕ). at ρ k) (p.added g) ∙ rows_kept (laid b g.is) (walked walks') new new q f k i j);
      }

  module _ {t : Bool} (l : n < most) (d : Same new new' bound t) where
    left : most - n ≡ suc (most - suc n)
    left = omega arith

    met : t ≡ meets (now s) (demands s.book.book (now s))
    met = met_is s.book s.bound_is turn_sized s.after turn_holds d

    turn_next : t ≡ false → Settling (n + 1) b starts called bound most new new' walks'
    turn_next u =
        record {
          book = s.book;
          bound_is = s.bound_is;
          begins = s.begins;
          scanned = s.scanned;
          most_is = s.most_is;
          few = omega arith;
          σ = now s;
          sized = turn_sized;
          before = s.after;
          after = turn_holds;
          goes = rw add-one (sym (rounds_more s.book.book (most - suc n) (now s) n (sym met ∙ u)) ∙ (rw left at s.goes));
          kept = turn_kept;
        }

    pub settling_last : t ≡ true → LaterPost b new' (n + 1)
    settling_last u =
        later_post s.book (met_holds s.book s.bound_is turn_sized s.after turn_holds (sym met ∙ u))
        (rw add-one (sym (rounds_last s.book.book (most - suc n) (now s) n (sym met ∙ u)) ∙ (rw left at s.goes)))

-- `turn_next` with its premises in the order in which `search` finds them there: in the other it breaks off.
pub settling_next : {b starts called old new new' : List ℕ} {walks walks' : List Bool} {bound most n : ℕ} {t : Bool} → t ≡ false → Same new new' bound t →
    PassPost b new new walks' new' → WakePost b old new called walks' → Settling n b starts called bound most old new walks → n < most →
    Settling (n + 1) b starts called bound most new new' walks'
settling_next u d p w s l = turn_next s w p l d u

-- Where the two ways meet, with the array and the number of rounds as each left them.
pub settle_others : {b new new' : List ℕ} {n n' : ℕ} → LaterPost b new n → new' ≡ new → n' ≡ n → LaterPost b new' n'
settle_others z e f = rw (e, f) z

-- The first round, from all sets empty: the last, or others come after it.
module _ {b σ new starts : List ℕ} (c : SettlePre b σ) (z : RoundPost b (replicate most_places 0) (replicate most_places 0) new starts) where
  pub settle_once : {new' : List ℕ} {n : ℕ} {t : Bool} → Same (replicate most_places 0) new (length σ) t → t ≡ true → new' ≡ new → n ≡ 1 →
      LaterPost b new' n
  unfolding find empty most_rounds
  settle_once d u i =
      let g = c.book in
      let σ₀ : List ℕ = replicate (size g.book) 0 in
      let l : length σ₀ ≡ size g.book = length-replicate (size g.book) 0 in
      let k = holds_none (size g.book) in
      let h = holds_round g k l (z.added g) in
      let e : most_rounds g.book ≡ suc (most_parameters * size g.book) = omega arith in
      let m = same_met g c.sized l k h (d.equal u) in
      settle_others
      (later_post g (met_holds g c.sized l k h m) (rw e (sym (rounds_last g.book (most_parameters * size g.book) σ₀ 0 m)))) i

-- The summary that the array holds is its front.
pub settle_stored : {b σ new σ' : List ℕ} {n : ℕ} → SettlePre b σ → LaterPost b new n → Stored new σ σ' → SettlePost b σ' n
unfolding at empty
settle_stored {b} {σ} {new} {σ'} {n} c z d =
    record { summary_is = λ g. d.is ∙ front g; rounds_are = z.rounds_are }
  where
    front : (g : BookHere b) → take (length σ) new ≡ (find g.book).summary
    front g =
        let h = z.found g in
        let room : length σ ≤ length new = omega (arith, settle_small c, h.wide) in
        let l = length-take-le (length σ) new room in
        ext_get_or 0 (take (length σ) new) (find g.book).summary
        (l ∙ size_is c g ∙ sym (length_found (laid b g.is)))
        (λ k j. get_or-take (length σ) new k 0 (omega arith) ∙ h.same k)
