-- The set of a call: only the argument sets whose position is in the callee's result set.
use mathlib.Core.Path.{◌≡◌, refl, sym, ap, ◌∙◌}
use mathlib.Core.Bool.{Bool, true, false, cond}
use mathlib.Core.Logic.{⊎_elim}
use mathlib.Core.List.{List, ◌∷◌}
use Prim.Native.Nat.{ℕ, suc, ◌+◌, ◌*◌, ◌-◌, ◌≤◌, ◌<◌}
use native.Mathlib.Omega.{arith}
use native.Mathlib.Nat.{zero-add, add-zero}
use native.Mathlib.Numerals.{add-one}
use lib.ListN.{length, get_or, take, set, replicate, length-set, length-replicate}
use lib.Seq.{get_or-set_same, get_or-set_other, get_or-take, length-take-le}
use lib.Bits.{bit_or}
use Rattle.meaning.specs.Limits.{most_bytes, most_parameters}
use Rattle.meaning.specs.Lists.{fold}
use Rattle.meaning.specs.Reading.{entry}
use Rattle.meaning.specs.Sets.{empty, union, member, ◌⊆◌, gather}
use Rattle.meaning.specs.Flow.{by_sets, flow, flows, at}
use Rattle.meaning.proofs.Sets.{member_empty, empty_sub, sub_antisym, gather_has, gather_least}
use Rattle.meaning.proofs.Lists.{below_suc}
use Rattle.book.proofs.Text.{ExprHere, ArgsHere}
use Rattle.book.proofs.Views.{call_view, no_args_view, args_view}
use Rattle.book.proofs.Views.Bounds.{expr_spans}
use Rattle.flow.specs.Exprs.{within, ExprPre, CodedPre, ExprPost, ExprAnswer, PastPre, PastPost}
use Rattle.flow.specs.Packed.{set_in, next_in, Flowed}
use Rattle.flow.proofs.Exprs.{args_moved, none_here, more_here, Called, given_here, expr_post, flowed_post, length_flows}

-- Where the callee's number and the count of its parameters stand, and how many they may be.
pub call_there : {b σ : List ℕ} {i : ℕ} → CodedPre 0x13 b σ i → i + 1 < length b
call_there q = (call_view q.pre.here q.is).there

pub call_entry : {b σ : List ℕ} {i p : ℕ} → CodedPre 0x13 b σ i → p ≡ get_or b (i + 1) 0 → 7 + 6 * p ≤ length b
call_entry {b} {σ} {i} {p} q e = omega (arith, (call_view q.pre.here q.is).known, q.pre.contents.listed.room)

pub call_few : {b σ : List ℕ} {i p n : ℕ} → CodedPre 0x13 b σ i → p ≡ get_or b (i + 1) 0 → n ≡ (entry b p).parameters → n ≤ most_parameters
call_few {b} {σ} {i} {p} {n} q d e = rw (e, d) (q.pre.contents.listed.few (get_or b (i + 1) 0) (call_view q.pre.here q.is).known)

abbrev call_args : {b σ : List ℕ} {i p n : ℕ} → CodedPre 0x13 b σ i → Called b i p n → (w : ℕ) (x : ExprHere b (within b w) i) →
    ArgsHere b (within b w) n (i + 2)
call_args q k w x = given_here q.pre.contents.listed k q.is w x

-- What is gathered of the arguments is the set of the call.
call_law : {b σ bits : List ℕ} {i p n s m : ℕ} → CodedPre 0x13 b σ i → Called b i p n →
    ((w : ℕ) (x : ArgsHere b (within b w) n (i + 2)) → s ≡ gather (get_or σ p 0) (flows x.tree (by_sets σ w) (take w bits))) →
    ((w : ℕ) (x : ArgsHere b (within b w) n (i + 2)) → m ≡ x.next) → ExprPost b σ bits i s m
unfolding flow flows at empty
call_law {b} {σ} {bits} {i} {p} {n} {s} {m} q k g e =
    expr_post q.pre
    (λ w x. rw ((call_view x q.is).tree, ← k.callee) (g w (call_args q k w x)))
    (λ w x. e w (call_args q k w x) ∙ sym (call_view x q.is).next)

-- Where no parameter is chosen.
gather_none : (l : List ℕ) → gather empty l ≡ empty
gather_none l =
    sub_antisym
    (gather_least empty l empty (λ i h m. let z = member_empty i in let y : ◌≡◌ {A = ℕ} 0 1 = cc in absurd (omega arith)))
    (empty_sub (gather empty l))

-- Then all arguments are passed over at once; the test stands first, since it tells `search` which callee is meant.
pub call_past : {b σ : List ℕ} {i p n : ℕ} → get_or σ p 0 ≡ 0 → n ≡ (entry b p).parameters → p ≡ get_or b (i + 1) 0 → CodedPre 0x13 b σ i → PastPre b n (i + 2)
call_past h e d q =
    record {
      listed = q.pre.contents.listed;
      w = q.pre.w;
      here = call_args q (record { callee = d; count = e }) q.pre.w q.pre.here;
    }

pub call_none : {b σ : List ℕ} (bits : List ℕ) {i p n m r : ℕ} → CodedPre 0x13 b σ i → p ≡ get_or b (i + 1) 0 → n ≡ (entry b p).parameters →
    get_or σ p 0 ≡ 0 → PastPost b n (i + 2) m → Flowed 0 m r → ExprAnswer b σ bits i r
unfolding empty
call_none {b} {σ} bits {i} {p} {n} q d e h f t =
    flowed_post
    (call_law q (record { callee = d; count = e })
    (λ w x. rw h (sym (gather_none (flows x.tree (by_sets σ w) (take w bits)))))
    (λ w x. f.ends w x))
    t

-- Two lists that agree at each chosen position: what is gathered of them is the same.
gather_sub : (c : ℕ) (l t : List ℕ) → length l ≡ length t → ((j : ℕ) → j < length l → member j c ≡ true → get_or l j empty ≡ get_or t j empty) →
    gather c l ⊆ gather c t
gather_sub c l t e h = gather_least c l (gather c t) (λ j a m. rw (h j a m) (gather_has c t j (omega arith) m))

gather_same : (c : ℕ) (l t : List ℕ) → length l ≡ length t → ((j : ℕ) → j < length l → member j c ≡ true → get_or l j empty ≡ get_or t j empty) →
    gather c l ≡ gather c t
gather_same c l t e h = sub_antisym (gather_sub c l t e h) (gather_sub c t l (sym e) (λ j a m. sym (h j (omega arith) m)))

-- After k of the n arguments at i: those that are left stand at m, and of the others the chosen ones are given.
pub record Left (b σ bits : List ℕ) (n i chosen k m : ℕ) (given : List ℕ) (w : ℕ) (x : ArgsHere b (within b w) n i) : Type 0 where
  pub here : ArgsHere b (within b w) (n - k) m
  pub rest : (j : ℕ) → get_or (flows x.tree (by_sets σ w) (take w bits)) (k + j) empty ≡ get_or (flows here.tree (by_sets σ w) (take w bits)) j empty
  pub same : (j : ℕ) → j < k → member j chosen ≡ true → get_or given j empty ≡ get_or (flows x.tree (by_sets σ w) (take w bits)) j empty
  pub ends : here.next ≡ x.next

-- The call at i, of which k arguments are walked or passed over, and the next, if there is one, stands at m.
pub record Calling (b σ bits : List ℕ) (i p n chosen k m : ℕ) (given : List ℕ) : Type 0 where
  pub coded : CodedPre 0x13 b σ i
  pub called : Called b i p n
  pub result : chosen ≡ get_or σ p 0
  pub few : n ≤ most_parameters
  pub count : k ≤ n
  pub on : i + 2 ≤ m
  pub inside : m ≤ length b
  pub short : length b ≤ most_bytes
  pub room : length given ≡ most_parameters
  pub left : (w : ℕ) (x : ArgsHere b (within b w) n (i + 2)) → Left b σ bits n (i + 2) chosen k m given w x
  pub next : k < n → ExprPre b σ m
  pub past : k < n → PastPre b 1 m

-- One argument as a list of one, which is what is passed over.
abbrev one_here : {b : List ℕ} {w m : ℕ} → ExprHere b (within b w) m → ArgsHere b (within b w) 1 m
one_here x = more_here 1 0 x refl (none_here x.next (expr_spans x).within)

calling_all : {b σ bits given : List ℕ} {i p n chosen k m : ℕ} → CodedPre 0x13 b σ i → Called b i p n → chosen ≡ get_or σ p 0 → k ≤ n → i + 2 ≤ m →
    m ≤ length b → length given ≡ most_parameters → ((w : ℕ) (x : ArgsHere b (within b w) n (i + 2)) → Left b σ bits n (i + 2) chosen k m given w x) →
    Calling b σ bits i p n chosen k m given
calling_all {b} {σ} {bits} {given} {i} {p} {n} {chosen} {k} {m} q c r h o z l f =
    let p = q.pre in
    let head : k < n → ExprHere b (within b p.w) m = λ a. (args_view (f p.w (call_args q c p.w p.here)).here (omega arith)).head in
    record {
      coded = q;
      called = c;
      result = r;
      few = call_few q c.callee c.count;
      count = h;
      on = o;
      inside = z;
      short = p.contents.listed.short;
      room = l;
      left = f;
      next = λ a. record { contents = p.contents; w = p.w; narrow = p.narrow; here = head a };
      past = λ a. record { listed = p.contents.listed; w = p.w; here = one_here (head a) };
    }

pub calling_none : {b σ : List ℕ} (bits : List ℕ) {i p n chosen : ℕ} → CodedPre 0x13 b σ i → p ≡ get_or b (i + 1) 0 → n ≡ (entry b p).parameters →
    chosen ≡ get_or σ p 0 → Calling b σ bits i p n chosen 0 (i + 2) (replicate most_parameters 0)
calling_none bits q d e h =
    calling_all q (record { callee = d; count = e }) h (omega arith) (omega arith) (omega (arith, call_there q))
    (length-replicate {A = ℕ} most_parameters 0)
    (λ w x. record { here = args_moved (omega arith) refl x; rest = λ j. rw (zero-add j); same = λ j l. absurd (omega arith); ends = refl })

module _ {b σ bits given : List ℕ} {i p n chosen k m : ℕ} (q : Calling b σ bits i p n chosen k m given) where
  -- One argument more, where its set is known, or its position is not chosen.
  calling_step : (u : List ℕ) (j : ℕ) → k < n → m ≤ j → j ≤ length b → length u ≡ length given → ((r : ℕ) → r < k → get_or u r 0 ≡ get_or given r 0) →
      ((w : ℕ) (y : ExprHere b (within b w) m) → member k chosen ≡ true → get_or u k 0 ≡ flow y.tree (by_sets σ w) (take w bits)) →
      ((w : ℕ) (y : ExprHere b (within b w) m) → j ≡ y.next) → Calling b σ bits i p n chosen (k + 1) j u
  unfolding flows empty
  calling_step u j h a z l o g e =
      calling_all q.coded q.called q.result (omega arith) (omega (arith, q.on)) z (l ∙ q.room)
      (λ w x.
      let f = q.left w x in
      let y = args_view f.here (omega arith) in
      let s = y.some in
      let W = by_sets σ w in
      let Γ = take w bits in
      let t : (r : ℕ) → get_or (flows x.tree W Γ) (k + r) 0 ≡ get_or (flow y.head.tree W Γ ∷ flows y.rest.tree W Γ) r 0 =
      λ r. f.rest r ∙ ap (λ t. get_or (flows t W Γ) r 0) y.tree in
      record {
        here = args_moved (omega arith) (e w y.head) y.rest;
        rest = λ r. let d : k + 1 + r ≡ k + suc r = omega arith in rw d (t (suc r));
        same = λ r v c. ⊎_elim
            (λ d. o r d ∙ f.same r d c)
            (λ d. rw d (g w y.head (rw d at c) ∙ sym (rw add-zero at (t 0))))
            (below_suc (omega arith));
        ends = sym y.next ∙ f.ends;
      })

  -- A chosen argument is walked, any other is passed over.
  pub calling_more : {r v j : ℕ} {t : Bool} → k < n → t ≡ member k chosen → t ≡ true → ExprAnswer b σ bits m r → v ≡ set_in r → j ≡ next_in r →
      Calling b σ bits i p n chosen (k + 1) j (set given k v)
  calling_more {r} {v} {j} h d c a e f =
      let t = a.is in
      calling_step (set given k v) j h (omega (arith, t.on)) (omega (arith, t.inside)) (length-set given k v)
      (λ r d. get_or-set_other given k r v 0 (λ e. absurd (omega arith)))
      (λ w y c. get_or-set_same given k v 0 (omega (arith, q.room, q.few)) ∙ e ∙ t.gave w y)
      (λ w y. f ∙ t.ends w y)

  pub calling_passed : {j : ℕ} {t : Bool} → k < n → t ≡ member k chosen → t ≡ false → PastPost b 1 m j → Calling b σ bits i p n chosen (k + 1) j given
  calling_passed {j} h d c a =
      calling_step given j h a.on a.inside refl (λ r d. refl)
      (λ w y e. let z : ◌≡◌ {A = ℕ} 0 1 = cc in absurd (omega arith))
      (λ w y. a.ends w (one_here y))

  -- After all of them, what is gathered of what is given is what is gathered of the sets.
  pub calling_returns : {s r : ℕ} → n ≤ k → s ≡ gather chosen (take n given) → Flowed s m r → ExprAnswer b σ bits i r
  unfolding empty
  calling_returns h g t =
      let d = length-take-le n given (omega (arith, q.room, q.few)) in
      flowed_post
      (call_law q.coded q.called
      (λ w x.
      let l = flows x.tree (by_sets σ w) (take w bits) in
      g
      ∙ gather_same chosen (take n given) l
      (d ∙ sym (length_flows x.tree b (within b w) n (i + 2) x.next (by_sets σ w) (take w bits) x.is))
      (λ j a c. get_or-take n given j 0 (omega arith) ∙ (q.left w x).same j (omega arith) c)
      ∙ ap (λ (c : ℕ). gather c l) q.result)
      (λ w x. let y = q.left w x in sym (no_args_view y.here (omega arith)).next ∙ y.ends))
      t

-- What is gathered of the first n sets, after i of them.
pub record Gathering (chosen n : ℕ) (sets : List ℕ) (i s : ℕ) : Type 0 where
  pub room : n ≤ length sets
  pub count : i ≤ n
  pub same : s ≡ fold i (λ i s. cond (member i chosen) (union s (get_or (take n sets) i empty)) s) empty

pub gathering_none : (chosen : ℕ) {n : ℕ} {sets : List ℕ} → n ≤ most_parameters → length sets ≡ most_parameters → Gathering chosen n sets 0 0
unfolding fold empty
gathering_none chosen h e = record { room = omega arith; count = omega arith; same = refl }

pub gathering_more : {chosen n i s : ℕ} {t : Bool} {sets : List ℕ} → Gathering chosen n sets i s → i < n → t ≡ member i chosen → t ≡ true →
    Gathering chosen n sets (i + 1) (bit_or s (get_or sets i 0))
unfolding fold empty union
gathering_more {chosen} {n} {i} {s} {t} {sets} g l h e =
    record { room = g.room; count = omega arith; same = rw (add-one, fold, ← h, e, g.same, get_or-take n sets i 0 l) }

pub gathering_passed : {chosen n i s : ℕ} {t : Bool} {sets : List ℕ} → Gathering chosen n sets i s → i < n → t ≡ member i chosen → t ≡ false →
    Gathering chosen n sets (i + 1) s
unfolding fold
gathering_passed g l h e = record { room = g.room; count = omega arith; same = rw (add-one, fold, ← h, e, g.same) }

pub gathering_done : {chosen n i s : ℕ} {sets : List ℕ} → Gathering chosen n sets i s → n ≤ i → s ≡ gather chosen (take n sets)
unfolding gather
gathering_done {chosen} {n} {i} {s} {sets} g l =
    g.same
    ∙ ap (λ (m : ℕ). fold m (λ i s. cond (member i chosen) (union s (get_or (take n sets) i empty)) s) empty)
    (omega (arith, g.count, length-take-le n sets g.room))
