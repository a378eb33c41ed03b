-- A text's bytes give its array and its length back.
use Rattle.std.specs.Prelude.{◌≡◌, List, ◌++◌, ℕ, ◌-◌, length, take, replicate}
use Rattle.std.proofs.Common.{sym, ap, ◌∙◌}
use Rattle.lines.specs.Says.{room, Says}
use Rattle.lines.specs.declared.text.Text.TheInside.{Inside}

pub inverse_ok : (t : Inside) → Says (take t.len t.bytes) t.bytes t.len →
    ◌≡◌ {A = Inside} (record { bytes = take t.len t.bytes ++ replicate (room - length (take t.len t.bytes)) 0; len = length (take t.len t.bytes) }) t
inverse_ok t h =
    let e : take t.len t.bytes ++ replicate (room - length (take t.len t.bytes)) 0 ≡ t.bytes =
    ap (λ n. take t.len t.bytes ++ replicate (room - n) 0) (sym h.len_is) ∙ sym h.bytes_is in
    let l : length (take t.len t.bytes) ≡ t.len = sym h.len_is in
    let f : List ℕ → ℕ → Inside = λ b n. record { bytes = b; len = n } in
    ap (λ b. f b (length (take t.len t.bytes))) e ∙ ap (f t.bytes) l
