-- What a call comes to: its arguments gathered, its procedure entered.
use Rattle.std.proofs.Common.{◌≡◌, ℕ, suc, ◌+◌, ◌-◌, ◌*◌, ◌<◌, ◌≤◌, List, [], ◌∷◌, ◌++◌, length, get_or, take, set, replicate, sym, refl, ap, ◌∙◌, append_assoc, append-nil, add-one, arith, length-set, take-suc-set}
use mathlib.Core.Option.{some}
use borrow.Rule.Slice.PartMut.{mid_of, mid_len}
use lib.ListN.{get_elem?}
use Rattle.meaning.specs.Tree.{Args, Closing, Procedure, Book}
use Rattle.meaning.specs.Reading.{Scope, arities, entries, entry}
use Rattle.meaning.specs.Running.{Out, done, ended, yield, bind, tick, value, values, finish, start, runs}
use Rattle.book.proofs.Text.{ArgsAt, ArgsHere, ClosingHere}
use Rattle.book.proofs.Views.{ArgsView, args_view, no_args_view, call_view, closing_code}
use Rattle.book.proofs.Views.Bounds.{expr_spans}
use Rattle.meaning.proofs.Places.{row_of}
use Rattle.runner.specs.Outcome.{ending_of, outcome, leaves, outcome_of}
use Rattle.runner.specs.Opened.{Opened, book_of, in_scope}
use Rattle.runner.specs.Answer.{answer_of, Yields, Ends, HasLeft, HasResult}
use Rattle.runner.specs.Frame.{cells, depths, Framed, PreparedPost}
use Rattle.runner.specs.Parts.{EvalPre, FormPre, ArgsPre, EnterPre, BodyPre, ClosingPre}
use Rattle.runner.specs.Parts.{EvalPost, ArgsPost, ClosingPost, EnterPost, BodyPost}
use Rattle.runner.specs.Jumping.{Jumps, JumpPost}
use Rattle.runner.proofs.Fall.{fall, fall_bytes, fall_depth}
use Rattle.runner.proofs.Packing.{has_ended, not_ended}
use Rattle.runner.proofs.Memo.{ends_expr}
use Rattle.runner.proofs.Heads.{Called, called}
use Rattle.runner.proofs.Outcomes.{stop, go, goes, left_made, left_over, said, bind_yield, bind_same}
use Rattle.runner.proofs.Exprs.{ready_on, expr_ready, own_jump}

args_moved : (es : Args) (b : List ℕ) (v : Scope) {n m i j k l : ℕ} → n ≡ m → i ≡ j → k ≡ l → ArgsAt es b v m j l → ArgsAt es b v n i k
args_moved es b v x y z h = rw (x, y, z) h

-- Arguments while they are gathered: `vs` holds the first i, and the others stand from `at` on.
pub record Gathering (b j₀ : List ℕ) (at₀ count f l₀ : ℕ) (w₀ vs₀ j : List ℕ) (at l i : ℕ) (w vs : List ℕ) : Type 0 where
  pub pre : ArgsPre b j₀ at₀ count f l₀ w₀ vs₀
  pub eight : length vs ≡ 8
  pub some : i ≤ count
  pub fits : count ≤ 8
  pub tree : ArgsHere b (in_scope b (cells f)) count at₀ → Args
  pub is : (x : ArgsHere b (in_scope b (cells f)) count at₀) → ArgsAt (tree x) b (in_scope b (cells f)) (count - i) at x.next
  pub ran : (g : Opened b) (x : ArgsHere b (in_scope b (cells f)) count at₀) →
      bind (values (tree x) (runs (book_of g) (depths f)) (take (cells f) w) l) (λ us k. yield (take i vs ++ us) k)
      ≡ values x.tree (runs (book_of g) (depths f)) (take (cells f) w₀) l₀
  pub kept : take (cells f) w ≡ take (cells f) w₀
  pub long : length w ≡ length w₀
  pub fell : l ≤ l₀
  pub few : l ≤ 1000000
  pub past : at₀ ≤ at
  pub jumps : Jumps b j

module _ {b j : List ℕ} {at count f l : ℕ} {w vs : List ℕ} where
  pub gathering_start : ArgsPre b j at count f l w vs → Gathering b j at count f l w vs j at l 0 w vs
  unfolding bind yield
  gathering_start h =
      record {
        pre = h;
        eight = h.eight;
        some = omega arith;
        fits = h.some;
        tree = λ x. x.tree;
        is = λ x. let z : count - 0 ≡ count = omega arith in rw z x.is;
        ran = λ g x. whole (values x.tree (runs (book_of g) (depths f)) (take (cells f) w) l);
        kept = refl;
        long = refl;
        fell = omega arith;
        few = h.ready.few;
        past = omega arith;
        jumps = h.ready.jumps;
      }
    where
      whole : (o : Out (List ℕ)) → bind o (λ us k. yield us k) ≡ o
      whole (done a n) = refl
      whole (ended e n) = refl

module _ {b j₀ : List ℕ} {at₀ count f l₀ : ℕ} {w₀ vs₀ j : List ℕ} {at l i : ℕ} {w vs : List ℕ}
    (p : Gathering b j₀ at₀ count f l₀ w₀ vs₀ j at l i w vs) where
  -- What is left of the arguments, as the place's own.
  left_over_args : ArgsHere b (in_scope b (cells f)) count at₀ → ArgsHere b (in_scope b (cells f)) (count - i) at
  left_over_args x = record { tree = p.tree x; next = x.next; is = p.is x }

  -- All are gathered.
  pub arguments_done : {r : ℕ} → count ≤ i → Yields 0 l r → ArgsPost b at₀ count f l₀ w₀ w j vs r
  unfolding values bind yield left_over_args
  arguments_done {r} m y =
      let e : i ≡ count = omega (arith, p.some) in
      record {
        ran =
            λ g x.
            let v = no_args_view {n = count - i} {at = at} (left_over_args x) (omega arith) in
            rw (goes r y, left_made r y, ← append-nil (take count vs), ← e) (said _ _ ∙ rw v.tree at (p.ran g x));
        kept = p.kept;
        long = p.long;
        fell = omega (arith, p.fell, left_made r y);
        jumps = p.jumps;
        eight = p.eight;
      }

  module _ (m : i < count) where
    next_view : (x : ArgsHere b (in_scope b (cells f)) count at₀) → ArgsView b (in_scope b (cells f)) (count - i) at (left_over_args x)
    next_view x = args_view (left_over_args x) (omega arith)

    pub argument_pre : EvalPre b j at f l w
    argument_pre = expr_ready (ready_on p.pre.ready p.jumps p.long p.fell) (next_view p.pre.here).head

    pub argument_falls : {t : ℕ} → fall (depths f) l₀ (length b - at₀ + 2) ≡ t → fall (depths f) l (length b - at + 1) < t
    argument_falls e = fall_bytes _ _ _ _ _ e p.fell (omega (arith, p.past))

    module _ {w₁ j₁ : List ℕ} {a : ℕ} (q : EvalPost b at f l w w₁ j₁ a) where
      pub arguments_stopped : 0x8000000000000000 ≤ a → ArgsPost b at₀ count f l₀ w₀ w₁ j₁ vs a
      unfolding values left_over_args
      arguments_stopped u =
          record {
            ran =
                λ g x.
                let v = next_view x in
                stop a [] (take count vs) _ _ (stop a _ [] _ _ (q.ran g v.head) (has_ended u)) (has_ended u) ∙ rw v.tree at (p.ran g x);
            kept = q.kept ∙ p.kept;
            long = q.long ∙ p.long;
            fell = omega (arith, q.fell, p.fell);
            jumps = q.jumps;
            eight = p.eight;
          }

      pub argument_on : {u n next : ℕ} {j₂ : List ℕ} → a < 0x2000000000000000 → HasResult a u → HasLeft a n → JumpPost b at j₂ next →
          Gathering b j₀ at₀ count f l₀ w₀ vs₀ j₂ next n (i + 1) w₁ (set vs i u)
      unfolding values left_over_args
      argument_on {u} {n} {next} z s k e =
          record {
            pre = p.pre;
            eight = length-set vs i u ∙ p.eight;
            some = omega arith;
            fits = p.fits;
            tree = λ x. (next_view x).rest.tree;
            is =
                λ x.
                let v = next_view x in
                let y : count - (i + 1) ≡ v.fewer = omega (arith, v.some) in
                args_moved v.rest.tree b (in_scope b (cells f)) y (ends_expr e.ends v.head) v.next v.rest.is;
            ran =
                λ g x.
                let v = next_view x in
                let o = values v.rest.tree (runs (book_of g) (depths f)) (take (cells f) w) (answer_of a).left in
                rw (k.is, q.kept)
                (bind_same o _ _ (λ us k. ap (λ t. yield t k) (one_more us))
                ∙ (sym (bind_yield o (λ us. (answer_of a).value ∷ us) (λ us k. yield (take i vs ++ us) k))
                ∙ rw (v.tree, go a _ _ _ (q.ran g v.head) (not_ended z)) at (p.ran g x)));
            kept = q.kept ∙ p.kept;
            long = q.long ∙ p.long;
            fell = omega (arith, q.fell, p.fell, k.is);
            few = omega (arith, q.fell, p.few, k.is);
            past = let v = next_view p.pre.here in omega (arith, p.past, ends_expr e.ends v.head, expr_spans v.head);
            jumps = e.jumps;
          }
        where
          one_more : (us : List ℕ) → take (i + 1) (set vs i u) ++ us ≡ take i vs ++ ((answer_of a).value ∷ us)
          one_more us =
              rw (add-one i, take-suc-set vs i u (omega (arith, p.eight, p.fits)), ← s.is) (append_assoc (take i vs) (u ∷ []) us)

-- What holds of the trees at a place holds of those at an equal place, with as many variables.
at_equal : {b : List ℕ} {n m at i row : ℕ} (P : Closing → Type 0) → n ≡ m → at ≡ i → ((x : ClosingHere b (in_scope b n) row at) → P x.tree) →
    (x : ClosingHere b (in_scope b m) row i) → P x.tree
at_equal P e o t = rw (e, o) at t

-- A procedure that the book has runs its body.
runs_found : (k : Book) (d p : ℕ) (vs : List ℕ) (l : ℕ) (q : Procedure) → get_elem? k p ≡ some q →
    runs k (suc d) p vs l ≡ finish q.body (runs k d) (start q vs) l
unfolding runs
runs_found k d p vs l q e = rw (e, runs)

-- A procedure in cells of its own.
module _ {b j : List ℕ} {p : ℕ} {given : List ℕ} {d l : ℕ} {w : List ℕ} (h : BodyPre b j p given d l w) where
  module _ {w₁ : List ℕ} {n : ℕ} (q : PreparedPost b p given w w₁ n) where
    module _ {f at : ℕ} (o : at ≡ (entry b p).offset) (a : Framed n d f) where
      framed_as : cells f ≡ (entry b p).parameters + (entry b p).locals
      framed_as = a.cells_are ∙ q.counted

      pub body_pre : ClosingPre b j at f l w₁
      body_pre =
          let v = h.book.procedure p h.known in
          record {
            ready =
                record {
                  book = h.book;
                  bytes = h.bytes;
                  room = rw (a.cells_are, a.depths_are) (omega (arith, q.few, q.long, h.room));
                  shallow = rw a.depths_are h.shallow;
                  few = h.few;
                  jumps = h.jumps;
                };
            row = row_of (length (book_of h.book)) (book_of h.book) p;
            here = rw (framed_as, o) v.body;
            there = rw o (closing_code v.body).there;
          }

      pub body_falls : {t : ℕ} → fall d l 65536 ≡ t → fall (depths f) l (length b - at + 3) < t
      body_falls e = rw a.depths_are (fall_bytes _ _ _ _ _ e (omega arith) (omega (arith, h.bytes)))

      pub body_done : {r : ℕ} {j₁ : List ℕ} → ClosingPost b at f l w₁ j₁ r → BodyPost b p given d l j₁ r
      body_done {r} {j₁} s =
          record {
            ran =
                λ g.
                let v = g.procedure p h.known in
                let e : take (cells f) w₁ ≡ take (entry b p).parameters given ++ replicate (entry b p).locals 0 = rw a.cells_are q.begun in
                rw (
                  runs_found (book_of g) d p (take (entry b p).parameters given) l v.procedure v.found,
                  v.locals,
                  ← v.tree,
                  ← e,
                  ← a.depths_are,
                )
                (at_equal (λ c. outcome_of r ≡ finish c (runs (book_of g) (depths f)) (take (cells f) w₁) l) framed_as o (s.ran g _) v.body);
            fell = s.fell;
            jumps = s.jumps;
          }

-- The cells of its own are those after its caller's.
module _ {b j : List ℕ} {p : ℕ} {given : List ℕ} {f l : ℕ} {w : List ℕ} (h : EnterPre b j p given f l w) where
  pub enter_deep : {d r : ℕ} → d ≡ depths f → d ≡ 0 → Ends 5 l r → EnterPost b p given f l w w j r
  unfolding runs outcome ending_of
  enter_deep {d} {r} i e z =
      let y : depths f ≡ 0 = sym i ∙ e in
      record { ran = λ g. rw (z.is, y); kept = refl; long = refl; fell = omega (arith, left_over r z); jumps = h.jumps }

  module _ {d n : ℕ} (i : d ≡ depths f) (u : d ≡ 0 → ⊥) (o : n ≡ cells f) where
    pub enter_room : n ≤ length w
    enter_room = omega (arith, h.room)

    pub rest_pre : BodyPre b j p given (d - 1) l (mid_of n (length w - n) w)
    rest_pre =
        let r = mid_len n (length w) w (omega arith) in
        record {
          book = h.book;
          bytes = h.bytes;
          known = h.known;
          room = omega (arith, h.room, r);
          shallow = omega (arith, h.shallow);
          few = h.few;
          jumps = h.jumps;
          eight = h.eight;
        }

    pub rest_falls : {t : ℕ} → fall (depths f) l 0 ≡ t → fall (d - 1) l 65536 < t
    rest_falls e = fall_depth _ _ _ _ _ _ e (omega arith) (omega arith) (omega arith)

-- A call: the procedure's entry, its arguments, and its answer.
module _ {b j : List ℕ} {at f l : ℕ} {w : List ℕ} (h : FormPre 0x13 b j at f l w) where
  pub call_fits : at + 1 < length b
  call_fits = (call_view h.start.here h.code).there

  pub args_falls : {t : ℕ} → fall (depths f) l (length b - at + 2) ≡ t → fall (depths f) l (length b - (at + 2) + 2) < t
  args_falls e = fall_bytes _ _ _ _ _ e (omega arith) (omega (arith, call_fits))

  module _ {p : ℕ} (i : p ≡ get_or b (at + 1) 0) where
    call_known : Called b p
    call_known = rw i (called h.start.ready.book (get_or b (at + 1) 0) (call_view h.start.here h.code).known)

    pub call_within : 7 + 6 * p ≤ length b
    call_within = call_known.within

    module _ {count : ℕ} (c : count ≡ (entry b p).parameters) where
      count_is : count ≡ get_or (arities (entries b)) (get_or b (at + 1) 0) 0
      count_is = c ∙ (sym call_known.counted ∙ ap (λ z. get_or (arities (entries b)) z 0) i)

      pub args_pre : {vs : List ℕ} → length vs ≡ 8 → ArgsPre b j (at + 2) count f l w vs
      args_pre e =
          let v = call_view h.start.here h.code in
          record {
            ready = h.start.ready;
            here = rw count_is v.given;
            some = rw c (h.start.ready.book.facts.few_parameters p call_known.known);
            eight = e;
            there = omega (arith, call_fits);
          }

      module _ {w₁ j₁ vs : List ℕ} {a : ℕ} (q : ArgsPost b (at + 2) count f l w w₁ j₁ vs a) where
        -- The arguments as the tree has them.
        given_all : (k : Opened b) (x : ArgsHere b (in_scope b (cells f)) (get_or (arities (entries b)) (get_or b (at + 1) 0) 0) (at + 2)) →
            leaves a (take count vs) ≡ values x.tree (runs (book_of k) (depths f)) (take (cells f) w) l
        given_all k x =
            let s : ArgsPost b (at + 2) (get_or (arities (entries b)) (get_or b (at + 1) 0) 0) f l w w₁ j₁ vs a = rw count_is at q in
            rw count_is (s.ran k x)

        pub call_stopped : 0x8000000000000000 ≤ a → EvalPost b at f (suc l) w w₁ j₁ a
        unfolding value tick
        call_stopped u =
            record {
              ran =
                  λ k x.
                  let v = call_view x h.code in
                  rw v.tree (stop a (take count vs) _ _ _ (given_all k v.given) (has_ended u));
              kept = q.kept;
              long = q.long;
              fell = omega (arith, q.fell);
              jumps = q.jumps;
              jump = own_jump h.start q.jumps;
            }

        module _ {m : ℕ} (k : HasLeft a m) where
          pub call_pre : EnterPre b j₁ p vs f m w₁
          call_pre =
              record {
                book = h.start.ready.book;
                bytes = h.start.ready.bytes;
                known = call_known.known;
                room = omega (arith, h.start.ready.room, q.long);
                shallow = omega (arith, h.start.ready.shallow);
                few = omega (arith, h.start.ready.few, q.fell, k.is);
                jumps = q.jumps;
                eight = q.eight;
              }

          pub call_falls : {t : ℕ} → fall (depths f) l (length b - at + 2) ≡ t → fall (depths f) m 0 < t
          call_falls e = fall_bytes _ _ _ _ _ e (omega (arith, q.fell, k.is)) (omega arith)

          pub call_done : {r : ℕ} {w₂ j₂ : List ℕ} → a < 0x2000000000000000 → EnterPost b p vs f m w₁ w₂ j₂ r → EvalPost b at f (suc l) w w₂ j₂ r
          unfolding value tick
          call_done z s =
              record {
                ran =
                    λ g x.
                    let v = call_view x h.code in
                    rw (v.tree, go a (take count vs) _ _ (given_all g v.given) (not_ended z), c, ← i, ← k.is) (s.ran g);
                kept = s.kept ∙ q.kept;
                long = s.long ∙ q.long;
                fell = omega (arith, q.fell, k.is, s.fell);
                jumps = s.jumps;
                jump = own_jump h.start s.jumps;
              }
