-- Bytes in a row, one by one.
use Rattle.std.proofs.Common.{◌≡◌, ℕ, suc, ◌+◌, ◌*◌, ◌-◌, ◌<◌, ◌≤◌, ◌^◌, sym, ◌∙◌, ap, arith}
use Rattle.std.proofs.lemmas.Nat.{pow-add}
use Rattle.std.proofs.Math.Nat.{pow-le-pow_right, mul-le-mul_right}
use Rattle.pv_mean.specs.Frames.{Frame}
use Rattle.pv_mean.specs.Spots.{byte_in, number_of_bytes, with_bit}

pub bytes_step : (frame : Frame) (n i count number byte total : ℕ) → i < count → byte ≡ byte_in frame (n + i) → number_of_bytes frame (n + i) (count - i) number ≡ total → number_of_bytes frame (n + (i + 1)) (count - (i + 1)) (number * 256 + byte) ≡ total
bytes_step frame n i count number byte total lt is h =
    let e : count - i ≡ suc (count - (i + 1)) = omega arith in
    let f : n + (i + 1) ≡ n + i + 1 = omega arith in
    ap (λ m. number_of_bytes frame m (count - (i + 1)) (number * 256 + byte)) f
    ∙ ap (λ b. number_of_bytes frame (n + i + 1) (count - (i + 1)) (number * 256 + b)) is
    ∙ sym (ap (λ k. number_of_bytes frame (n + i) k number) e) ∙ h

pub bytes_below : (i number byte : ℕ) → number < 256 ^ i → byte < 256 → number * 256 + byte < 256 ^ (i + 1)
bytes_below i number byte h b = omega (arith, pow-add 256 i 1)

pub bytes_room : (i number : ℕ) → i < 4 → number < 256 ^ i → number < 256 ^ 3
bytes_room i number few h =
    let most : 256 ^ i ≤ 256 ^ 3 = pow-le-pow_right (omega arith) {i = i} {j = 3} (omega arith) in
    omega arith

pub bytes_short : (i number : ℕ) → i ≤ 4 → number < 256 ^ i → number < 256 ^ 4
bytes_short i number few h =
    let most : 256 ^ i ≤ 256 ^ 4 = pow-le-pow_right (omega arith) {i = i} {j = 4} (omega arith) in
    omega arith

pub weight_room : (k : ℕ) → k ≤ 3 → 256 ^ k < 18446744073709551616
weight_room k few =
    let most : 256 ^ k ≤ 256 ^ 3 = pow-le-pow_right (omega arith) {i = k} {j = 3} few in
    omega arith

pub weight_some : (k : ℕ) → 0 < 256 ^ k
weight_some k =
    let least : 256 ^ 0 ≤ 256 ^ k = pow-le-pow_right (omega arith) {i = 0} {j = k} (omega arith) in
    omega arith

pub bytes_done : (frame : Frame) (n i count number total : ℕ) → count ≤ i → number_of_bytes frame (n + i) (count - i) number ≡ total → number ≡ total
bytes_done frame n i count number total done h =
    let e : count - i ≡ 0 = omega arith in
    sym (ap (λ k. number_of_bytes frame (n + i) k number) e) ∙ h

pub with_bit_small : (byte b value : ℕ) → byte < 2 ^ 32 → b < 8 → value ≤ 1 → with_bit byte b value < 2 ^ 33
with_bit_small byte b value small few one =
    let most : 2 ^ b ≤ 2 ^ 8 = pow-le-pow_right (omega arith) {i = b} {j = 8} (omega arith) in
    omega (arith, mul-le-mul_right (2 ^ b) one)
