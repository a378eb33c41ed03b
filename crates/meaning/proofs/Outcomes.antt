-- Relations on outcomes, with one law for each way in which a run makes an outcome. A run that has not finished meets them all.
use mathlib.Core.Path.{◌≡◌, refl}
use mathlib.Core.List.{List}
use Prim.Native.Nat.{ℕ, zero, suc}
use Rattle.meaning.specs.Tree.{Operation, sum, difference, product, quotient, equal, less, smaller, larger}
use Rattle.meaning.specs.Running.{Ending, Out, done, ended, yield, bind, tick, choose, operate, turns}

-- If the run finishes, its result satisfies R.
pub data Post {A : Type 0} (R : A → Type 0) : Out A → Type 0 where
  holds : {a : A} {n : ℕ} → R a → Post R (done a n)
  halted : {e : Ending} {n : ℕ} → Post R (ended e n)

-- If both runs finish, their results satisfy R.
pub data Weak {A B : Type 0} (R : A → B → Type 0) : Out A → Out B → Type 0 where
  both : {a : A} {b : B} {n m : ℕ} → R a b → Weak R (done a n) (done b m)
  halted_l : {e : Ending} {n : ℕ} {p : Out B} → Weak R (ended e n) p
  halted_r : {e : Ending} {n : ℕ} {o : Out A} → Weak R o (ended e n)

-- One run.
pub post_yield : {A : Type 0} {R : A → Type 0} (a : A) (n : ℕ) → R a → Post R (yield a n)
unfolding yield
post_yield a n r = holds r

pub post_tick : {A : Type 0} {R : A → Type 0} {g : ℕ → Out A} (n : ℕ) → ((n : ℕ) → Post R (g n)) → Post R (tick n g)
unfolding tick
post_tick zero k = halted
post_tick (suc n) k = k n

pub post_bind : {A B : Type 0} {R : A → Type 0} {S : B → Type 0} {o : Out A} {g : A → ℕ → Out B} →
    Post R o → ((a : A) (n : ℕ) → R a → Post S (g a n)) → Post S (bind o g)
unfolding bind
post_bind (holds {a = a} {n = n} r) k = k a n r
post_bind halted k = halted

pub post_choose : {A : Type 0} {R : A → Type 0} {f g : ℕ → Out A} (v n : ℕ) →
    ((n : ℕ) → Post R (f n)) → ((n : ℕ) → Post R (g n)) → Post R (choose v f g n)
unfolding choose
post_choose zero n k l = l n
post_choose (suc v) n k l = k n

pub post_mono : {A : Type 0} {R S : A → Type 0} {o : Out A} → ((a : A) → R a → S a) → Post R o → Post S o
post_mono k (holds {a = a} r) = holds (k a r)
post_mono k halted = halted

-- Nothing is asked of the result.
pub post_any : {A : Type 0} (o : Out A) → Post (λ a. Unit {0}) o
post_any (done a n) = holds tt
post_any (ended e n) = halted

-- Two runs.
pub weak_yield : {A B : Type 0} {R : A → B → Type 0} (a : A) (b : B) (n m : ℕ) → R a b → Weak R (yield a n) (yield b m)
unfolding yield
weak_yield a b n m r = both r

pub weak_tick : {A B : Type 0} {R : A → B → Type 0} {g : ℕ → Out A} {h : ℕ → Out B} (n m : ℕ) →
    ((n m : ℕ) → Weak R (g n) (h m)) → Weak R (tick n g) (tick m h)
unfolding tick
weak_tick zero m k = halted_l
weak_tick (suc n) zero k = halted_r
weak_tick (suc n) (suc m) k = k n m

pub weak_bind : {A B C D : Type 0} {R : A → B → Type 0} {S : C → D → Type 0} {o : Out A} {p : Out B} {g : A → ℕ → Out C} {h : B → ℕ → Out D} →
    Weak R o p → ((a : A) (b : B) (n m : ℕ) → R a b → Weak S (g a n) (h b m)) → Weak S (bind o g) (bind p h)
unfolding bind
weak_bind (both {a = a} {b = b} {n = n} {m = m} r) k = k a b n m r
weak_bind halted_l k = halted_l
weak_bind halted_r k = halted_r

-- Both runs take the same way.
pub weak_choose : {A B : Type 0} {R : A → B → Type 0} {f g : ℕ → Out A} {f' g' : ℕ → Out B} (v w n m : ℕ) → v ≡ w →
    ((n m : ℕ) → Weak R (f n) (f' m)) → ((n m : ℕ) → Weak R (g n) (g' m)) →
    Weak R (choose v f g n) (choose w f' g' m)
unfolding choose
weak_choose {R = R} {f = f} {g = g} {f' = f'} {g' = g'} v w n m e k l = rw e (way w)
  where
    way : (w : ℕ) → Weak R (choose w f g n) (choose w f' g' m)
    way zero = l n m
    way (suc w) = k n m

pub weak_mono : {A B : Type 0} {R S : A → B → Type 0} {o : Out A} {p : Out B} → ((a : A) (b : B) → R a b → S a b) → Weak R o p → Weak S o p
weak_mono k (both {a = a} {b = b} r) = both (k a b r)
weak_mono k halted_l = halted_l
weak_mono k halted_r = halted_r

-- Two runs of which each is known by itself.
pub weak_apart : {A B : Type 0} {R : A → Type 0} {S : B → Type 0} {T : A → B → Type 0} {o : Out A} {p : Out B} →
    Post R o → Post S p → ((a : A) (b : B) → R a → S b → T a b) → Weak T o p
weak_apart (holds {a = a} r) (holds {a = b} s) k = both (k a b r s)
weak_apart (holds r) halted k = halted_r
weak_apart halted s k = halted_l

-- What two finished runs satisfy.
pub weak_done : {A B : Type 0} {R : A → B → Type 0} {a : A} {b : B} {n m : ℕ} → Weak R (done a n) (done b m) → R a b
weak_done (both r) = r

-- A relation that holds only under a premise.
pub weak_when : {A B : Type 0} {R : A → B → Type 0} {P : Type 0} (o : Out A) (p : Out B) → (P → Weak R o p) → Weak (λ a b. P → R a b) o p
weak_when (done a n) (done b m) k = both λ h. weak_done (k h)
weak_when (done a n) (ended e m) k = halted_r
weak_when (ended e n) p k = halted_l

-- Equal operands give equal results.
pub weak_operate : (o : Operation) (a b n m : ℕ) → Weak (λ v w. v ≡ w) (operate o a b n) (operate o a b m)
unfolding operate yield
weak_operate sum a b n m = both refl
weak_operate difference a b n m = both refl
weak_operate product a b n m = both refl
weak_operate quotient a b n m = both refl
weak_operate equal a b n m = both refl
weak_operate less a b n m = both refl
weak_operate smaller a b n m = both refl
weak_operate larger a b n m = both refl

-- A loop, by what holds of the variables before and after each turn.
module _ (test : List ℕ → ℕ → Out ℕ) (inside : List ℕ → ℕ → Out (List ℕ)) where
  pub post_turns : {I : List ℕ → Type 0} → ((ρ : List ℕ) (n : ℕ) → I ρ → Post I (inside ρ n)) →
      (k : ℕ) (ρ : List ℕ) (n : ℕ) → I ρ → Post I (turns test inside k ρ n)
  unfolding turns
  post_turns body zero ρ n i = halted
  post_turns body (suc k) ρ n i =
      post_tick n λ n. post_bind (post_any (test ρ n)) λ v n t.
      post_choose v n (λ n. post_bind (body ρ n i) λ ρ n i. post_turns body k ρ n i) (λ n. post_yield ρ n i)

  -- The two loops may have different fuel.
  pub weak_turns : {I : List ℕ → List ℕ → Type 0} →
      ((ρ θ : List ℕ) (n m : ℕ) → I ρ θ → Weak (λ v w. v ≡ w) (test ρ n) (test θ m)) →
      ((ρ θ : List ℕ) (n m : ℕ) → I ρ θ → Weak I (inside ρ n) (inside θ m)) →
      (k j : ℕ) (ρ θ : List ℕ) (n m : ℕ) → I ρ θ → Weak I (turns test inside k ρ n) (turns test inside j θ m)
  unfolding turns
  weak_turns tests body zero j ρ θ n m i = halted_l
  weak_turns tests body (suc k) zero ρ θ n m i = halted_r
  weak_turns tests body (suc k) (suc j) ρ θ n m i =
      weak_tick n m λ n m. weak_bind (tests ρ θ n m i) λ v w n m e.
      weak_choose v w n m e
      (λ n m. weak_bind (body ρ θ n m i) λ ρ θ n m i. weak_turns tests body k j ρ θ n m i)
      (λ n m. weak_yield ρ θ n m i)
