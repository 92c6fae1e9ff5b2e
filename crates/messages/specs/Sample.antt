-- Messages to run the definitions on. Assumes nothing.
use Rattle.std.specs.Prelude.{List, [], ◌∷◌, ◌++◌, ℕ, suc, ◌-◌, ◌*◌, length, replicate}
use Rattle.wire.specs.Bytes.{bytes}

-- a key or a digest: it begins with this byte
abbrev pub key_with : ℕ → List ℕ
key_with k = k ∷ replicate 31 0

unfoldable pub keys_with : List ℕ → List ℕ
keys_with [] = []
keys_with (k ∷ ks) = key_with k ++ keys_with ks

-- payload items with these worker ids: the digests begin k, k + 1 ..
unfoldable pub payload_with : ℕ → List ℕ → List ℕ
payload_with k [] = []
payload_with k (w ∷ ws) = key_with k ++ (bytes 4 w ++ payload_with (suc k) ws)

unfoldable pub header_with : ℕ → ℕ → List ℕ → ℕ → List ℕ → List ℕ
unfolding keys_with payload_with
header_with author round parents k ws =
    replicate 32 9
    ++ (key_with author
    ++ (bytes 8 round
    ++ (length parents
    ∷ length ws
    ∷ (keys_with parents
    ++ (replicate (1024 - 32 * length parents) 0 ++ (payload_with k ws ++ replicate (2304 - 36 * length ws) 0))))))

unfoldable pub vote_with : ℕ → ℕ → ℕ → List ℕ
vote_with origin author round = replicate 32 9 ++ (key_with origin ++ (key_with author ++ bytes 8 round))

unfoldable pub certificate_with : List ℕ → List ℕ → List ℕ
unfolding keys_with
certificate_with header voters = header ++ (replicate 32 8 ++ (length voters ∷ (keys_with voters ++ replicate (2048 - 32 * length voters) 0)))
