-- The bodies that the parser reads, entry by entry, and each procedure of the book that they make.
use mathlib.Core.Path.{◌≡◌, refl, ap, ◌∙◌}
use mathlib.Core.List.{List, [], ◌∷◌}
use mathlib.Core.Option.{some}
use Prim.Native.Nat.{ℕ, zero, suc, ◌+◌, ◌*◌, ◌<◌}
use native.Mathlib.Nat.{zero-add}
use native.Mathlib.Omega.{arith}
use lib.ListN.{length, get_or, take, drop, get_elem?, length-take, length-drop}
use lib.Seq.{get_or-take, get_or-drop}
use Rattle.meaning.specs.Limits.{most_depth}
use Rattle.meaning.specs.Tree.{Procedure, Book, Closing, variables, loops_of, placed_of}
use Rattle.meaning.specs.Reading.{Parsed, got, bad, Scope, Entry, body, left_over, scope, body_of, bodies, placed_all}
use Rattle.meaning.proofs.Pairs.{Pairs, done, also}
use Rattle.meaning.proofs.Places.{row_of, loops_placed_of}
use Rattle.book.proofs.Text.{ClosingAt}
use Rattle.book.proofs.Sound.Parts.{Lies, To, gives, fails, gives_all, to_more, to_then}
use Rattle.book.proofs.Sound.Trees.{ReadClosing, closing_sound}

lies_part : (b : List ℕ) (n at : ℕ) → Lies (take n (drop at b)) b at
lies_part b n at =
    record {
      fits = simp (length-take, length-drop) (omega arith);
      same = λ i h. get_or-take n (drop at b) i 0 (omega (arith, simp length-take at h)) ∙ get_or-drop at b i 0;
    }

-- The rows of a later procedure begin behind those of the first.
row_later : (k : ℕ) (q : Procedure) (qs : Book) (p : ℕ) →
    row_of k (placed_all k (q ∷ qs)) (suc p) ≡ row_of (k + variables q * loops_of q.body) (placed_all (k + variables q * loops_of q.body) qs) p
unfolding placed_all row_of
row_later k q qs p =
    ap (λ n. row_of (k + variables q * n) (placed_all (k + variables q * loops_of q.body) qs) p) (loops_placed_of q.body (variables q) k)

module _ (b ar : List ℕ) where
  body_sound : (v : Scope) (s : List ℕ) (at : ℕ) → Lies s b at → To (λ c i. ReadClosing b v c at i) at (body v s)
  unfolding body
  body_sound v s at l = to_then l (closing_sound b v most_depth s at l) λ c t mid m x. whole c t mid x
    where
      whole : (c : Closing) (t : List ℕ) (mid : ℕ) → ReadClosing b v c at mid →
          To (λ c i. ReadClosing b v c at i) mid (elim t [ [] ↦ got c 0 | b ∷ s ↦ bad left_over 0 ])
      whole c [] mid x = gives_all x
      whole c (k ∷ t) mid x = fails

  -- Procedure q is what entry e says.
  pub record ReadBody (e : Entry) (q : Procedure) : Type 0 where
    pub parameters : q.parameters ≡ e.parameters
    pub locals : q.locals ≡ e.locals
    pub next : ℕ
    pub body : ReadClosing b (scope ar e) q.body e.offset next

  body_of_sound : (e : Entry) → To (λ c i. ReadClosing b (scope ar e) c e.offset i) 0 (body_of b ar e)
  unfolding body_of
  body_of_sound e = to_more e.offset (rw zero-add (body_sound (scope ar e) _ e.offset (lies_part b e.bytes e.offset)))

  pub bodies_sound : (es : List Entry) → To (λ qs i. Pairs ReadBody es qs) 0 (bodies b ar es)
  unfolding bodies
  bodies_sound [] = gives_all done
  bodies_sound (e ∷ es) = go (body_of b ar e) (body_of_sound e) (bodies b ar es) (bodies_sound es)
    where
      go : (o : Parsed Closing) → To (λ c i. ReadClosing b (scope ar e) c e.offset i) 0 o → (p : Parsed Book) → To (λ qs i. Pairs ReadBody es qs) 0 p →
          To (λ qs i. Pairs ReadBody (e ∷ es) qs) 0 (elim o [
            | bad r p ↦ bad r p
            | got c n ↦ elim p [
              | bad r p ↦ bad r p
              | got qs m ↦ got (record { parameters = e.parameters; locals = e.locals; body = c } ∷ qs) m
            ]
          ])
      go o fails p y = fails
      go o (gives c n x) p fails = fails
      go o (gives c n x) p (gives qs m y) = gives _ m (also (record { parameters = refl; locals = refl; next = 0 + n; body = x }) y)

  -- Procedure p of a book whose rows begin at place k, read by entry e.
  pub record BodyHere (e : Entry) (k : ℕ) (qs : Book) (p : ℕ) : Type 0 where
    pub procedure : Procedure
    pub found : get_elem? qs p ≡ some procedure
    pub parameters : procedure.parameters ≡ e.parameters
    pub locals : procedure.locals ≡ e.locals
    pub next : ℕ
    pub body : ClosingAt procedure.body b (scope ar e) (row_of k qs p) e.offset next

  pub placed_bodies : {es : List Entry} {qs : Book} → Pairs ReadBody es qs → (k p : ℕ) (d : Entry) → p < length es → BodyHere (get_or es p d) k (placed_all k qs) p
  unfolding placed_all row_of
  placed_bodies done k p d h = absurd (omega arith)
  placed_bodies (also {a = e} {b = q} x y) k zero d h =
      record {
        procedure = record { parameters = q.parameters; locals = q.locals; body = placed_of (variables q) k q.body };
        found = refl;
        parameters = x.parameters;
        locals = x.locals;
        next = x.next;
        body = rw (x.parameters, x.locals) (x.body k);
      }
  placed_bodies (also {a = e} {b = q} {t = qs} x y) k (suc p) d h =
      let z = placed_bodies y (k + variables q * loops_of q.body) p d (omega arith) in
      record {
        procedure = z.procedure;
        found = z.found;
        parameters = z.parameters;
        locals = z.locals;
        next = z.next;
        body = rw (row_later k q qs p) z.body;
      }
