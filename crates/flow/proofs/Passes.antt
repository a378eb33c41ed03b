-- A loop over the procedures of a book that walks some bodies: what is walked so far, and what is left.
use mathlib.Core.Path.{◌≡◌, refl, sym, ap, ◌∙◌}
use mathlib.Core.Bool.{Bool, true, false, cond}
use mathlib.Core.List.{List, []}
use mathlib.Core.Option.{some}
use Prim.Native.Nat.{ℕ, suc, ◌+◌, ◌≤◌, ◌<◌}
use native.Mathlib.Numerals.{add-one}
use native.Mathlib.Omega.{arith}
use lib.ListN.{length, get_or, drop, get_elem?}
use lib.Seq.{drop-length}
use Rattle.meaning.specs.Sets.{empty}
use Rattle.meaning.specs.Tree.{Procedure, variables}
use Rattle.meaning.specs.Reading.{procedures}
use Rattle.meaning.specs.Flow.{by_sets, start_sets, ends as returned, grow}
use Rattle.meaning.proofs.Needs.{grow_append}
use Rattle.meaning.proofs.Skipping.{asked_from, asked}
use Rattle.book.specs.Here.{BookHere}
use Rattle.book.proofs.Sound.{book_facts, procedure_view}
use Rattle.flow.specs.Copies.{most_places}
use Rattle.flow.specs.Rounds.{BodyPre, BodyPost}
use Rattle.flow.specs.Waking.{walked, PassPre, PassPost}
use Rattle.flow.proofs.Numbers.{Numbered, numbered}
use Rattle.flow.proofs.Starts.{begin_is}
use Rattle.flow.proofs.Bodies.{entry_here}
use Rattle.flow.proofs.Rounding.{drop_here}

-- The first p bodies are walked, of those that are to be; what the others demand is left.
pub record Skimming (b σ new : List ℕ) (walks : List Bool) (starts : List ℕ) (n p : ℕ) (new' : List ℕ) : Type 0 where
  pub pre : PassPre b σ new starts
  pub counted : Numbered b n
  pub below : p ≤ n
  pub wide : length new' ≡ most_places
  pub added : (g : BookHere b) → grow new' (asked_from (walked walks) p (drop p g.book) σ) ≡ grow new (asked (walked walks) g.book σ)

pub skimming_none : {b σ new starts : List ℕ} {n : ℕ} (walks : List Bool) → PassPre b σ new starts → n ≡ procedures b → Skimming b σ new walks starts n 0 new
unfolding asked
skimming_none walks c e =
    record {
      pre = c;
      counted = numbered c.round.book e;
      below = omega arith;
      wide = c.round.new_wide;
      added = λ g. refl;
    }

module _ {b σ new starts new' : List ℕ} {walks : List Bool} {n p : ℕ} (s : Skimming b σ new walks starts n p new') where
  pub skimming_pre : p < n → BodyPre b σ new' p (get_or starts p 0)
  skimming_pre l =
      let h : p < procedures b = omega (arith, s.counted.is) in
      record {
        round = record { book = s.counted.book; old_wide = s.pre.round.old_wide; new_wide = s.wide };
        known = h;
        entry = entry_here s.counted.book h;
        place = begin_is s.pre.begins s.counted.book p h;
      }

  -- The demands of p, if it is walked, and then those of the others.
  next_asked : p < procedures b → (new'' : List ℕ) → (g : BookHere b) →
      ((q : Procedure) → get_elem? g.book p ≡ some q →
      new'' ≡ grow new' (cond (walked walks p) (returned q.body (by_sets σ (variables q)) p (start_sets q) empty) [])) →
      grow new'' (asked_from (walked walks) (suc p) (drop (suc p) g.book) σ) ≡ grow new (asked (walked walks) g.book σ)
  unfolding asked_from
  next_asked l new'' g h =
      let y = procedure_view g p l in
      let t = y.procedure in
      let others = asked_from (walked walks) (suc p) (drop (suc p) g.book) σ in
      ap (λ (τ : List ℕ). grow τ others) (h t y.found)
      ∙ sym (grow_append new' (cond (walked walks p) (returned t.body (by_sets σ (variables t)) p (start_sets t) empty) []) others)
      ∙ ap (λ qs. grow new' (asked_from (walked walks) p qs σ)) (sym (drop_here g.book p y.found))
      ∙ s.added g

  -- One turn, whether or not the body is walked.
  skimming_turn : p < n → (new'' : List ℕ) → length new'' ≡ most_places →
      ((g : BookHere b) (q : Procedure) → get_elem? g.book p ≡ some q →
      new'' ≡ grow new' (cond (walked walks p) (returned q.body (by_sets σ (variables q)) p (start_sets q) empty) [])) →
      Skimming b σ new walks starts n (p + 1) new''
  skimming_turn l new'' w h =
      record {
        pre = s.pre;
        counted = s.counted;
        below = omega arith;
        wide = w;
        added = λ g. rw (add-one p) (next_asked (omega (arith, s.counted.is)) new'' g (h g));
      }

  pub skimming_walk : {new'' new''' : List ℕ} {row'' : ℕ} → p < n → get_or walks p false ≡ true → BodyPost b σ new' p (get_or starts p 0) new'' row'' →
      new''' ≡ new'' → Skimming b σ new walks starts n (p + 1) new'''
  skimming_walk {new''} l w z e =
      let h : p < procedures b = omega (arith, s.counted.is) in
      rw e (skimming_turn l new'' z.wide (λ g q f. rw w (z.added g q f (begin_is s.pre.begins g p h))))

  -- A body that is not walked adds nothing, and nothing was asked of it.
  pub skimming_skip : {new'' : List ℕ} → p < n → get_or walks p false ≡ false → new'' ≡ new' → Skimming b σ new walks starts n (p + 1) new''
  unfolding grow
  skimming_skip l w e =
      rw e (skimming_turn l new' s.wide (λ g q f. rw w))

  pub skimming_done : n ≤ p → PassPost b σ new walks new'
  unfolding asked_from grow
  skimming_done l = record { added = λ g. all_added g; wide = s.wide }
    where
      all_added : (g : BookHere b) → new' ≡ grow new (asked (walked walks) g.book σ)
      all_added g =
          let a : p ≡ length g.book = omega (arith, s.below, s.counted.is, (book_facts g).counted) in
          let e : drop p g.book ≡ [] = rw a (drop-length g.book) in
          ap (λ qs. grow new' (asked_from (walked walks) p qs σ)) (sym e) ∙ s.added g
