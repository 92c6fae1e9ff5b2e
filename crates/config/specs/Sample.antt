-- Member lists to run the definitions on. Assumes nothing.
use Rattle.std.specs.Prelude.{List, [], ◌∷◌, ◌++◌, ℕ, suc, ◌-◌, ◌*◌, length, replicate}
use Rattle.wire.specs.Bytes.{bytes}

-- the ids of workers, each in 4 bytes
unfoldable pub id_bytes : List ℕ → List ℕ
id_bytes [] = []
id_bytes (w ∷ ws) = bytes 4 w ++ id_bytes ws

-- a member: its key begins with this byte
unfoldable pub member_with : ℕ → ℕ → List ℕ → List ℕ
unfolding id_bytes
member_with key stake ws = (key ∷ replicate 31 0) ++ (bytes 4 stake ++ (length ws ∷ (id_bytes ws ++ replicate (32 - 4 * length ws) 0)))

-- members with these stakes: the keys begin k, k + 1 .., nobody has a worker
unfoldable pub members_with : ℕ → List ℕ → List ℕ
unfolding member_with
members_with k [] = []
members_with k (s ∷ ss) = member_with k s [] ++ members_with (suc k) ss
