-- How a text grows, and the digits of a byte.
use mathlib.Core.Path.{◌≡◌, refl, sym, ap, ◌∙◌}
use mathlib.Core.Bool.{Bool, true, false}
use mathlib.Core.List.{List, [], ◌∷◌, ◌++◌, append_assoc}
use Prim.Native.Nat.{ℕ, suc, ◌+◌, ◌-◌, ◌/◌, ◌%◌, ◌<◌, ◌≤◌}
use native.Mathlib.Omega.{arith}
use lib.ListN.{length, take, drop, replicate, length-append, length-replicate}
use lib.Seq.{take_at}
use borrow.Rule.Slice.PartMut.{put_mid}
use Rattle.std.proofs.lemmas.List.{drop_at, drop-replicate}
use Rattle.std.proofs.lemmas.Slice.{take-put_mid}
use lib.Dec.{leb}
use borrow.Author.Tests.{lt-ltb, le-ltb, leb-true, leb-false}
use Rattle.meaning.specs.Answers.{digits, decimal}
use Rattle.lines.specs.Says.{room, Says}

-- The last digit, and the digits before it.
last_digit : (k n : ℕ) (text : List ℕ) → n < 10 → digits (suc k) n text ≡ (48 + n) ∷ text
unfolding digits
last_digit k n text h = rw (lt-ltb n 10 h, digits)

more_digits : (k n : ℕ) (text : List ℕ) → 10 ≤ n → digits (suc k) n text ≡ digits k (n / 10) ((48 + n % 10) ∷ text)
unfolding digits
more_digits k n text h = rw (le-ltb n 10 h, digits)

pub one_digit : (n : ℕ) → n < 10 → decimal n ≡ (48 + n) ∷ []
unfolding decimal
one_digit n h = last_digit n n [] h

pub two_digits : (n : ℕ) → 10 ≤ n → n < 100 → decimal n ≡ (48 + n / 10) ∷ (48 + n % 10) ∷ []
unfolding decimal
two_digits n h k =
    let e : n ≡ suc (n - 1) = omega arith in
    more_digits n n [] h ∙ ap (λ j. digits j (n / 10) ((48 + n % 10) ∷ [])) e ∙ last_digit (n - 1) (n / 10) ((48 + n % 10) ∷ []) (omega arith)

pub three_digits : (n : ℕ) → 100 ≤ n → n < 1000 → decimal n ≡ (48 + n / 100) ∷ (48 + n / 10 % 10) ∷ (48 + n % 10) ∷ []
unfolding decimal
three_digits n h k =
    let e : n ≡ suc (n - 1) = omega arith in
    let f : n - 1 ≡ suc (n - 2) = omega arith in
    let g : n / 10 / 10 ≡ n / 100 = omega arith in
    let last = (48 + n % 10) ∷ [] in
    more_digits n n [] (omega arith)
    ∙ ap (λ j. digits j (n / 10) last) e
    ∙ more_digits (n - 1) (n / 10) last (omega arith)
    ∙ ap (λ j. digits j (n / 10 / 10) ((48 + n / 10 % 10) ∷ last)) f
    ∙ last_digit (n - 2) (n / 10 / 10) ((48 + n / 10 % 10) ∷ last) (omega arith)
    ∙ ap (λ d. (48 + d) ∷ (48 + n / 10 % 10) ∷ last) g

-- No two arrays and lengths say the same text.
pub one_text : {t bytes bytes' : List ℕ} {len len' : ℕ} → Says t bytes len → Says t bytes' len' → (bytes ≡ bytes') × (len ≡ len')
one_text s r =
    let same = s.len_is ∙ sym r.len_is in
    (s.bytes_is ∙ (rw same (sym r.bytes_is)), same)

-- What is printed: the bytes of the array up to the length.
pub says_text : {t bytes : List ℕ} {len : ℕ} → Says t bytes len → take len bytes ≡ t
says_text {t} {len = len} s = rw s.bytes_is (take_at t (replicate (room - len) 0) len (sym s.len_is))

-- What a clause sees of a text is said by its array and its length.
pub held_says : {t bytes : List ℕ} {len : ℕ} → Says (take len bytes) bytes len → take len bytes ≡ t → Says t bytes len
held_says s e = rw e at s

-- A number below 1,000 has three digits at most.
pub few_digits : (n : ℕ) → n < 1000 → length (decimal n) ≤ 3
few_digits n h = by (leb 10 n) refl (leb 100 n) refl
  where
    by : (a : Bool) → leb 10 n ≡ a → (b : Bool) → leb 100 n ≡ b → length (decimal n) ≤ 3
    by false p b q = rw (one_digit n (leb-false 10 n p)) (omega arith)
    by true p false q = rw (two_digits n (leb-true 10 n p) (leb-false 100 n q)) (omega arith)
    by true p true q = rw (three_digits n (leb-true 100 n q) h) (omega arith)

-- More is put behind a text in its array.
module _ {bytes more new : List ℕ} {len k : ℕ} (s : Says (take len bytes) bytes len) (h : len + length more ≤ room) (n : k ≡ length more)
    (e : new ≡ more) where
  room_is : length bytes ≡ room
  room_is = ap length s.bytes_is ∙ simp (length-append, length-replicate) (omega (arith, s.fits, s.len_is))

  behind : drop k (drop len bytes) ≡ replicate (room - (len + length more)) 0
  behind =
      ap (λ z. drop k z) (ap (drop len) s.bytes_is ∙ drop_at (take len bytes) (replicate (room - len) 0) len (sym s.len_is))
      ∙ drop-replicate k (room - len) 0 ∙ ap (λ m. replicate m 0) (omega arith)

  pub put_text : take (len + length more) (put_mid len k bytes new) ≡ take len bytes ++ more
  put_text = rw e (take-put_mid len k bytes more (len + length more) refl (omega (arith, room_is)))

  pub put_says : Says (take (len + length more) (put_mid len k bytes new)) (put_mid len k bytes new) (len + length more)
  put_says =
      record {
        fits = h;
        len_is = rw put_text (simp length-append (omega (arith, s.len_is)));
        bytes_is =
            ap (λ m. take len bytes ++ (m ++ drop k (drop len bytes))) e
            ∙ ap (λ z. take len bytes ++ (more ++ z)) behind
            ∙ sym (append_assoc (take len bytes) more (replicate (room - (len + length more)) 0))
            ∙ ap (λ t. t ++ replicate (room - (len + length more)) 0) (sym put_text);
      }

-- A number of one, two and three digits.
module _ (old : List ℕ) (n : ℕ) {new : List ℕ} where
  pub put_one : n < 10 → {a : ℕ} → a ≡ 48 + n → new ≡ old ++ (a ∷ []) → new ≡ old ++ decimal n
  put_one h p e = rw (one_digit n h, ← p) e

  pub put_two : 10 ≤ n → n < 100 → {a b : ℕ} → a ≡ 48 + n / 10 → b ≡ 48 + n % 10 → new ≡ old ++ (a ∷ b ∷ []) → new ≡ old ++ decimal n
  put_two h k p q e = rw (two_digits n h k, ← p, ← q) e

  pub put_three : 100 ≤ n → n < 1000 → {a b c : ℕ} → a ≡ 48 + n / 100 → b ≡ 48 + n / 10 % 10 → c ≡ 48 + n % 10 →
      new ≡ old ++ (a ∷ b ∷ c ∷ []) → new ≡ old ++ decimal n
  put_three h k p q r e = rw (three_digits n h k, ← p, ← q, ← r) e
