-- A buffer that is filled by vectors, each stored at its place.
use Rattle.std.proofs.Common.{◌≡◌, sym, List, ◌++◌, append-nil, ℕ, ◌+◌, ◌≤◌, ◌<◌, arith, length, get_or, take, drop, drop_of_length-le, length-drop, take_all}
use lib.Lanes.{put_chunk}
use Rattle.std.proofs.lemmas.Simd.{put_chunk_is}
use Rattle.lists.proofs.Parts.{Valued, valued_part}

-- a vector stored at the front of what is lent from place a on
pub put_rest : (a k : ℕ) (s xs : List ℕ) → a + k ≡ length s → length xs ≤ k → take a s ++ (put_chunk 0 (take k (drop a s)) xs ++ drop k (drop a s)) ≡ put_chunk a s xs
put_rest a k s xs whole fits =
    let rest : length (drop a s) ≤ k = omega (arith, length-drop a s) in
    let room : 0 + length xs ≤ length (drop a s) = omega (arith, length-drop a s) in
    rw (take_all k (drop a s) rest, drop_of_length-le (drop a s) rest, append-nil (put_chunk 0 (drop a s) xs), put_chunk_is 0 (drop a s) xs room)
    (sym (put_chunk_is a s xs (omega arith)))

-- k values more
pub valued_chunk : (f : ℕ → ℕ) (n : ℕ) {start now : List ℕ} {c : ℕ} (xs : List ℕ) (k : ℕ) → Valued f n start now c → n ≤ length start → c + k ≤ n → length xs ≡ k → ((p : ℕ) → p < k → get_or xs p 0 ≡ f (c + p)) → Valued f n start (put_chunk c now xs) (c + k)
valued_chunk f n {start} {now} {c} xs k a long h size e =
    rw (put_chunk_is c now xs (omega (arith, a.long))) (valued_part f n xs k (length xs) a long h size size e)
