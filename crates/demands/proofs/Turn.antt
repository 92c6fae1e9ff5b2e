-- A commit, leader by leader. Assumes nothing.
use mathlib.Core.List.{List, [], ◌++◌, ◌∷◌}
use mathlib.Core.Logic.{◌⊎◌, inl, inr, ⊎_elim}
use mathlib.Core.Path.{◌∙◌, ◌≡◌, refl, sym}
use Prim.Native.Nat.{◌<◌, ◌≤◌, suc, zero, ℕ}
use native.Mathlib.Omega.{arith}
use lib.ListN.{length}
use Rattle.consensus.specs.Among.{In, Once}
use Rattle.consensus.specs.Listing.{Served, Step, list_all, serve, steps_of}
use Rattle.consensus.specs.Table.{Cert, State, highest}
use Rattle.consensus.specs.Walk.{list_under}
use Rattle.demands.specs.Demand.{Chain, Gone, Heights, Lists, Turns, down, self, stop, turn}
use Rattle.consensus.proofs.Listing.{Within, all-size, highest-ge, list_back, within}
use Rattle.consensus.proofs.Lists.{app-in, in_app, in_left, in_right, once-app}
use Rattle.consensus.proofs.Climb.{Climb, step-up, climb-stays}
use Rattle.demands.proofs.Between.{Ok, Ok-list_all, heights-all, heights-map, ok-map}
use Rattle.demands.proofs.Cleared.{all-steps, gone-map}
use Rattle.demands.proofs.Due.{due}

-- what is on a chain is no higher than the leader, is held, and was not listed before

pub chain-low : (s : State) (l c : Cert) → Chain s l c → c.round ≤ l.round
chain-low s l c self = omega arith
chain-low s l c (down {x} ch h m e o) = let r = chain-low s l x ch in omega arith

pub chain_held : (s : State) (l c : Cert) → In l s.held → Chain s l c → In c s.held
chain_held s l c h self = h
chain_held s l c h (down ch hj m e o) = hj

pub chain-new : (s : State) (P : Cert → Type 0) (l c : Cert) → Ok s P → highest s.last < l.round → Chain s l c → P c → ⊥
chain-new s P l c k lt self p = let a = k.low c p in let b = highest-ge s.last c.origin in omega arith
chain-new s P l c k lt (down ch h m e o) p = o (sym (k.rested c h p))

-- and is above round 0
pub chain-late : (s : State) (P : Cert → Type 0) (l c : Cert) → Ok s P → highest s.last < l.round → Chain s l c → 0 < c.round
chain-late s P l c k lt self = omega arith
chain-late s P l c k lt (down ch h m e o) = go c.round refl
  where
    go : (n : ℕ) → c.round ≡ n → 0 < c.round
    go zero z = absurd (o (k.base c h z ∙ sym z))
    go (suc n) z = omega arith

module _ (depth : ℕ) where
  -- one leader's turn
  pub record Turned (s : State) (P : Cert → Type 0) (l : Cert) : Type 0 where
    pub lists : Lists depth s l (list_under depth l s)
    pub member : (c : Cert) → In c (list_under depth l s) → c.origin < length s.last
    pub within : Within depth (list_under depth l s) s l.round
    pub ok : Ok (list_all depth (list_under depth l s) s) (λ d. In d (list_under depth l s) ⊎ P d)

  pub turned : (s : State) (P : Cert → Type 0) (l : Cert) → Ok s P → highest s.last ≤ l.round → In l s.held → Turned s P l
  turned s P l k h hl =
      let w : List Cert = list_under depth l s in
      let D : Lists depth s l w = due depth s l k.sane hl in
      let mem : (c : Cert) → In c w → c.origin < length s.last = λ c q. k.member c (chain_held s l c hl (D.only c q).chain) in
      record {
        lists = D;
        member = mem;
        within = within depth w s l.round (λ c q. (mem c q, chain-low s l c (D.only c q).chain)) h;
        ok = Ok-list_all depth w s P mem k;
      }

  pub record Committed (s : State) (P : Cert → Type 0) (v : Served) : Type 0 where
    pub ok : Ok v.state (λ d. In d v.list ⊎ P d)
    pub once : Once v.list
    pub new : (d : Cert) → In d v.list → P d → ⊥
    pub were : (d : Cert) → In d v.list → In d s.held
    pub late : (d : Cert) → In d v.list → 0 < d.round
    pub back : (d : Cert) → In d v.state.held → In d s.held
    pub size : length v.state.last ≡ length s.last

  pub committed : (ls : List Cert) (s : State) (P : Cert → Type 0) (b : ℕ) → Ok s P → highest s.last ≤ b → Climb s.held b ls → Committed s P (serve depth ls s)
  unfolding serve
  committed [] s P b k h r =
      record {
        ok = ok-map s P (λ d. In d [] ⊎ P d) (λ c q. ⊎_elim (λ z. absurd z) (λ p. p) q) k;
        once = tt;
        new = λ d q p. q;
        were = λ d q. absurd q;
        late = λ d q. absurd q;
        back = λ d q. q;
        size = refl;
      }
  committed (l ∷ ls) s P b k h (step-up _ hl lt r) =
      let w : List Cert = list_under depth l s in
      let T : Turned s P l = turned s P l k (omega arith) hl in
      let s' : State = list_all depth w s in
      let P' : Cert → Type 0 = λ d. In d w ⊎ P d in
      let v : Served = serve depth ls s' in
      let C : Committed s' P' v = committed ls s' P' l.round T.ok T.within.high (climb-stays depth w s l.round ls T.within l.round (omega arith) r) in
      record {
        ok = ok-map v.state (λ d. In d v.list ⊎ P' d) (λ d. In d (w ++ v.list) ⊎ P d)
            (λ d q. ⊎_elim (λ a. ⊎_elim (λ x. inr (inl x)) (λ y. inl y) (in_app w v.list d a)) (λ p. inr (inr p)) q)
            C.ok;
        once = once-app w v.list T.lists.once C.once (λ c x y. C.new c y (inl x));
        new = λ d q p. ⊎_elim (λ a. chain-new s P l d k (omega arith) (T.lists.only d a).chain p) (λ a. C.new d a (inr p)) (in_app w v.list d q);
        were = λ d q. ⊎_elim (λ a. chain_held s l d hl (T.lists.only d a).chain) (λ a. list_back depth w s d (C.were d a)) (in_app w v.list d q);
        late = λ d q. ⊎_elim (λ a. chain-late s P l d k (omega arith) (T.lists.only d a).chain) (λ a. C.late d a) (in_app w v.list d q);
        back = λ d q. list_back depth w s d (C.back d q);
        size = C.size ∙ all-size depth w s;
      }

  -- and with the heights: the turns, and what becomes of each held one
  pub record Served' (ls : List Cert) (s : State) (P : Cert → Type 0) (v : Served) : Type 1 where
    pub turns : Turns depth P s ls v.list v.steps v.state
    pub heights : Heights (λ d. In d v.list ⊎ P d) v.state.last
    pub fates : (c : Cert) → In c s.held → In c v.state.held ⊎ Gone depth (λ d. In d v.list ⊎ P d) v.steps c

  pub served : (ls : List Cert) (s : State) (P : Cert → Type 0) (b : ℕ) → Ok s P → Heights P s.last → highest s.last ≤ b → Climb s.held b ls
      → Served' ls s P (serve depth ls s)
  unfolding serve
  served [] s P b k H h r =
      record {
        turns = stop;
        heights = heights-map s.last P (λ d. In d [] ⊎ P d) (λ c p. inr p) (λ c q. ⊎_elim (λ z. absurd z) (λ p. p) q) H;
        fates = λ c q. inl q;
      }
  served (l ∷ ls) s P b k H h (step-up _ hl lt r) =
      let w : List Cert = list_under depth l s in
      let T : Turned s P l = turned s P l k (omega arith) hl in
      let s' : State = list_all depth w s in
      let P' : Cert → Type 0 = λ d. In d w ⊎ P d in
      let v : Served = serve depth ls s' in
      let H' : Heights P' s'.last = heights-all depth w s P T.member H in
      let C : Served' ls s' P' v = served ls s' P' l.round T.ok H' T.within.high (climb-stays depth w s l.round ls T.within l.round (omega arith) r) in
      let Q : Cert → Type 0 = λ d. In d (w ++ v.list) ⊎ P d in
      let st : List Step = steps_of depth l w s in
      let up : (d : Cert) → In d v.list ⊎ P' d → Q d =
      λ d q. ⊎_elim (λ a. inl (app-in w v.list d (inr a))) (λ p. ⊎_elim (λ a. inl (app-in w v.list d (inl a))) (λ p'. inr p') p) q in
      record {
        turns = turn l hl H T.lists C.turns;
        heights = heights-map v.state.last (λ d. In d v.list ⊎ P' d) Q up
            (λ d q. ⊎_elim (λ a. ⊎_elim (λ x. inr (inl x)) (λ y. inl y) (in_app w v.list d a)) (λ p. inr (inr p)) q)
            C.heights;
        fates = λ c q.
            ⊎_elim
            (λ i. ⊎_elim (λ j. inl j) (λ g. inr (gone-map depth (λ d. In d v.list ⊎ P' d) Q v.steps (st ++ v.steps) c up (in_right st v.steps) g)) (C.fates c i))
            (λ g. inr (gone-map depth P' Q st (st ++ v.steps) c (λ d p. up d (inr p)) (in_left st v.steps) g))
            (all-steps depth l w s P T.member H c q);
      }
