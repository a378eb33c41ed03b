-- Commands one after another, in a run or in a closing sequence: what the loop over them keeps, asks and gives.
use mathlib.Core.Path.{◌≡◌}
use mathlib.Core.List.{List}
use Prim.Native.Nat.{ℕ, ◌+◌, ◌≤◌, ◌<◌}
use native.Mathlib.Omega.{arith}
use lib.ListN.{length, get_or}
use Rattle.std.proofs.Math.Logic.{◌⊎◌, inl, inr}
use Rattle.meaning.specs.Limits.{most_bytes}
use Rattle.book.proofs.Views.{run_code, closing_code}
use Rattle.flow.specs.Copies.{most_places}
use Rattle.flow.specs.Packed.{at_in, row_in, Placed}
use Rattle.flow.specs.Walks.{Going, Standing, going, standing, Ready, CmdPre, CmdCodedPre, NestedPre, AssignPre, AssignPost, CmdPost, CmdAnswer}
use Rattle.flow.specs.Walks.{RunPre, RunAnswer, Running, ClosingPre, ClosingCodedPre, ClosingAnswer, Nearing}
use Rattle.flow.specs.Walks.{CommandsPre, CommandsPost, CommandsAnswer}
use Rattle.flow.proofs.Runs.{running_none, running_pre, running_more, running_done}
use Rattle.flow.proofs.Closings.{nearing_none, nearing_pre, nearing_more, nearing_returns, first_pre}

-- From S the walk has come to T, by the commands of a run or of a closing sequence.
pub record Listing (G : Going) (g : ℕ) (S T : Standing) : Type 0 where
  pub pre : CommandsPre G S
  pub run : RunPre G S → Running G g S T
  pub closing : (p : ℕ) → ClosingPre G p S → Nearing G p g S T

-- What both parts tell of the place that the walk has come to.
record Come (G : Going) (S T : Standing) : Type 0 where
  pub ready : Ready G S
  pub there : T.at < length G.book
  pub row : T.row ≤ length G.old
  pub on : S.at ≤ T.at
  pub next : (get_or G.book T.at 0 ≡ 0x00 → ⊥) → get_or G.book T.at 0 < 0x04 → CmdPre G T

run_comes : {G : Going} {g : ℕ} {S T : Standing} → Running G g S T → Come G S T
run_comes q = record { ready = q.pre.ready; there = q.there; row = q.row; on = q.on; next = λ h k. running_pre q h }

closing_comes : {G : Going} {p g : ℕ} {S T : Standing} → Nearing G p g S T → Come G S T
closing_comes q =
    record {
      ready = q.pre.ready;
      there = q.there;
      row = omega (arith, (nearing_pre q).room);
      on = q.on;
      next = λ h k. first_pre (nearing_pre q) k;
    }

come : {G : Going} {g : ℕ} {S T : Standing} → Listing G g S T → Come G S T
come {G} {g} {S} {T} q =
    go q.pre.is
  where
    go : RunPre G S ⊎ ClosingPre G q.pre.p S → Come G S T
    go (inl r) = run_comes (q.run r)
    go (inr c) = closing_comes (q.closing q.pre.p c)

listing_more : {G : Going} {g : ℕ} {S T U : Standing} → Listing G g S T → (get_or G.book T.at 0 ≡ 0x00 → ⊥) →
    get_or G.book T.at 0 < 0x04 → CmdPost G g T U → Listing G g S U
listing_more q h k c =
    record { pre = q.pre; run = λ r. running_more (q.run r) h c; closing = λ p d. nearing_more (q.closing p d) k c }

coded : {G : Going} {g : ℕ} {S T : Standing} → Listing G g S T → get_or G.book T.at 0 ≡ 0x01 → CmdCodedPre 0x01 G T
coded q h = record { pre = (come q).next (λ e. omega arith) (omega arith); there = (come q).there; is = h }

-- What the loop asks and gives.
pub listing_none : {G : Going} {S : Standing} (g : ℕ) → CommandsPre G S → Listing G g S S
listing_none g p = record { pre = p; run = running_none g; closing = λ q. nearing_none g }

pub listing_assign_pre : {S : Standing} {b σ new sets : List ℕ} {w g i r : ℕ} → Listing (going b σ w) g S (standing i r new sets) →
    get_or b i 0 ≡ 0x01 → AssignPre b σ i sets
listing_assign_pre {new = new} {w = w} {r = r} q h = record { new = new; row = r; w = w; coded = coded q h }

pub listing_assign : {S : Standing} {b σ new sets sets' : List ℕ} {w g i r i' : ℕ} → Listing (going b σ w) g S (standing i r new sets) →
    get_or b i 0 ≡ 0x01 → AssignPost b σ i sets g sets' i' → Listing (going b σ w) g S (standing i' r new sets')
listing_assign {new = new} {w = w} {r = r} q h z = listing_more q (λ e. omega arith) (omega arith) (z.is new r w (coded q h))

pub listing_there : {S : Standing} {b σ new sets : List ℕ} {w g i r : ℕ} → Listing (going b σ w) g S (standing i r new sets) → i < length b
listing_there q = (come q).there

pub listing_on : {G : Going} {g : ℕ} {S T : Standing} → Listing G g S T → S.at ≤ T.at
listing_on q = (come q).on

pub listing_at : {S : Standing} {b σ new sets : List ℕ} {w g i r : ℕ} → Listing (going b σ w) g S (standing i r new sets) → i ≤ most_bytes
listing_at q = let c = come q in omega (arith, c.there, c.ready.contents.listed.short)

pub listing_row : {S : Standing} {b σ new sets : List ℕ} {w g i r : ℕ} → Listing (going b σ w) g S (standing i r new sets) → r ≤ most_places
listing_row q = let c = come q in omega (arith, c.row, c.ready.contents.places)

pub listing_nested_pre : {S : Standing} {b σ new sets : List ℕ} {w g i r : ℕ} → Listing (going b σ w) g S (standing i r new sets) →
    (get_or b i 0 ≡ 0x01 → ⊥) → (get_or b i 0 ≡ 0x00 → ⊥) → get_or b i 0 ≤ 0x03 → NestedPre (going b σ w) (standing i r new sets)
listing_nested_pre q k h l = record { pre = (come q).next h (omega arith); there = (come q).there; other = k }

pub listing_nested : {S : Standing} {b σ new sets new' sets' : List ℕ} {w g i r z i' r' : ℕ} → Listing (going b σ w) g S (standing i r new sets) →
    (get_or b i 0 ≡ 0x00 → ⊥) → get_or b i 0 ≤ 0x03 → CmdAnswer (going b σ w) g (standing i r new sets) new' sets' z →
    r' ≡ row_in z → i' ≡ at_in z → Listing (going b σ w) g S (standing i' r' new' sets')
listing_nested q h l p k m = rw (k, m) (listing_more q h (omega arith) p.is)

pub listing_returns : {S : Standing} {b σ new sets : List ℕ} {w g i r z : ℕ} → Listing (going b σ w) g S (standing i r new sets) →
    (get_or b i 0 ≡ 0x00) ⊎ ((get_or b i 0 ≡ 0x00 → ⊥) × (0x03 < get_or b i 0)) → Placed i r z → CommandsAnswer (going b σ w) g S new sets z
listing_returns {b = b} {i = i} q h z =
    record { is = rw (z.at_is, z.row_is) (record { run = q.run; closing = q.closing; ended = go h }) }
  where
    go : (get_or b i 0 ≡ 0x00) ⊎ ((get_or b i 0 ≡ 0x00 → ⊥) × (0x03 < get_or b i 0)) → (get_or b i 0 ≡ 0x00) ⊎ (0x03 < get_or b i 0)
    go (inl e) = inl e
    go (inr (d, e)) = inr e

-- A run: its commands, and the byte that ends it.
run_ended : {G : Going} {g : ℕ} {S T : Standing} → RunPre G S → CommandsPost G g S T → get_or G.book T.at 0 ≡ 0x00
run_ended {G} {g} {S} {T} p c =
    go c.ended
  where
    go : (get_or G.book T.at 0 ≡ 0x00) ⊎ (0x03 < get_or G.book T.at 0) → get_or G.book T.at 0 ≡ 0x00
    go (inl e) = e
    go (inr k) =
        let x = run_code ((c.run p).left p.here).here in
        omega arith

pub run_returns : {G : Going} {g y m k z : ℕ} {S : Standing} {new sets : List ℕ} → RunPre G S → CommandsAnswer G g S new sets y →
    m ≡ at_in y → k ≡ row_in y → Placed (m + 1) k z → RunAnswer G g S new sets z
run_returns p c e f z = record { is = rw (z.at_is, z.row_is, e, f) (running_done (c.is.run p) (run_ended p c.is)) }

-- A closing sequence: its ordinary commands, and the closing command.
pub closing_list : {G : Going} {p : ℕ} {S : Standing} → ClosingPre G p S → CommandsPre G S
closing_list {p = p} c = record { p = p; is = inr c }

pub closing_coded : {b σ new sets new' sets' : List ℕ} {w p g i r y m k c : ℕ} → ClosingPre (going b σ w) p (standing i r new sets) →
    CommandsAnswer (going b σ w) g (standing i r new sets) new' sets' y → m ≡ at_in y → k ≡ row_in y → get_or b m 0 ≡ c →
    ClosingCodedPre c (going b σ w) p (standing m k new' sets')
closing_coded {p = p} c a e f h =
    let q = a.is.closing p c in
    rw (e, f) (record { pre = nearing_pre q; there = q.there; is = rw e at h })

-- A closing command is a return or a closing if.
pub closing_other : {b σ new sets new' sets' : List ℕ} {w p g i r y m : ℕ} → ClosingPre (going b σ w) p (standing i r new sets) →
    CommandsAnswer (going b σ w) g (standing i r new sets) new' sets' y → m ≡ at_in y → (get_or b m 0 ≡ 0x04 → ⊥) → get_or b m 0 ≡ 0x05
closing_other {b} {σ} {new} {sets} {new'} {sets'} {w} {p} {g} {i} {r} {y} {m} c a e h =
    rw e (go a.is.ended)
  where
    go : (get_or b (at_in y) 0 ≡ 0x00) ⊎ (0x03 < get_or b (at_in y) 0) → get_or b (at_in y) 0 ≡ 0x05
    go (inl z) =
        let x = closing_code (nearing_pre (a.is.closing p c)).here in
        omega arith
    go (inr z) =
        let x = closing_code (nearing_pre (a.is.closing p c)).here in
        let n = rw e at h in
        omega arith

pub closing_at : {G : Going} {p g y m : ℕ} {S : Standing} {new sets : List ℕ} → ClosingPre G p S → CommandsAnswer G g S new sets y →
    m ≡ at_in y → m < length G.book
closing_at {p = p} c a e = rw e (a.is.closing p c).there

pub closing_on : {G : Going} {p g y m : ℕ} {S : Standing} {new sets : List ℕ} → ClosingPre G p S → CommandsAnswer G g S new sets y →
    m ≡ at_in y → S.at ≤ m
closing_on {p = p} c a e = rw e (a.is.closing p c).on

pub closing_returns : {G : Going} {p g y m k z : ℕ} {S : Standing} {new sets new' : List ℕ} → ClosingPre G p S →
    CommandsAnswer G g S new sets y → m ≡ at_in y → k ≡ row_in y → ClosingAnswer G p g (standing m k new sets) new' z →
    ClosingAnswer G p g S new' z
closing_returns {p = p} c a e f z = nearing_returns (a.is.closing p c) (rw (e, f) at z)
