-- Walks over the legal moves that test what positions are worth, for any kind of tokens.
use Rattle.std.specs.Prelude.{ℕ, zero, suc, ◌+◌, ◌-◌, Bool, true, false, cond, List, [], ◌∷◌, ℤ, pos, neg_ℤ, ◌-ℤ◌, slice_get, take, drop, Option, Some, None}
use Rattle.std.specs.List.{position_from}
use Rattle.hive_model.specs.declared.places.Move.{Move}
use Rattle.hive_model.specs.Positions.{Position}
use Rattle.hive_model.specs.Legal.{moves, is_over}
use Rattle.hive_model.specs.Games.{after}
use Rattle.hive_model.specs.Histories.{is_move}
use Rattle.hive_model.specs.Minimax.{value}
use Rattle.certificate_walks.specs.declared.limit.Limit.{Limit}
use Rattle.certificate_walks.specs.declared.limit.Limit.TheVariants.{AtMost, AtLeast}
use Rattle.certificate_walks.specs.Limits.{is_kept}

-- What a walk leaves; or its first fault, and how many tokens were taken before it; or, if a bad
-- item is in the place of a token, how many were taken before that.
pub data WalkEnd (S W : Type 0) : Type 0 where
  Left : S → WalkEnd S W
  Fault : W → ℕ → WalkEnd S W
  Halt : ℕ → WalkEnd S W

-- What a node that takes a token finds: the place of the move below which the walk goes on, or the
-- end of this node's walk.
pub data Step (S W : Type 0) : Type 0 where
  Below : ℕ → S → Step S W
  Ends : WalkEnd S W → Step S W

-- The faults that every walk may meet. A claimed move is not legal; a place is not below the number
-- of moves; a leaf does not meet its claim; something is left over.
pub record Reasons (W : Type 0) : Type 0 where
  pub no_such_move : W
  pub bad_index : W
  pub leaf_fails : W
  pub rest : W

-- How a walk takes tokens. S is what is left to it at a node, and W are the faults.
pub record Rules (S W : Type 0) : Type 0 where
  pub reasons : Reasons W
  -- how many tokens were taken so far, and whether none is left
  pub taken : S → ℕ
  pub at_end : S → Bool
  -- what a node takes whose value is claimed to be at least x, with this number of plies left
  pub take : Position → ℕ → ℤ → S → Step S W
  -- what is kept of it once that is shown
  pub keep : Position → ℕ → ℤ → S → S

-- goes on from what is left
abbrev pub go_on : {S W : Type 0} → WalkEnd S W → (S → WalkEnd S W) → WalkEnd S W
go_on (Left s) next = next s
go_on (Fault why n) next = Fault why n
go_on (Halt n) next = Halt n

-- walks every move in order; each begins with what the one before left
abbrev pub walk_all : {S W : Type 0} → (Move → S → WalkEnd S W) → List Move → S → WalkEnd S W
walk_all walk [] s = Left s
walk_all walk (m ∷ ms) s = go_on (walk m s) (walk_all walk ms)

-- walks the move that an index names
abbrev pub walk_at : {S W : Type 0} → W → ℕ → (Move → S → WalkEnd S W) → Option Move → S
    → WalkEnd S W
walk_at bad n walk None s = Fault bad n
walk_at bad n walk (Some m) s = walk m s

abbrev pub walk_step : {S W : Type 0} → Rules S W → (Move → S → WalkEnd S W) → List Move → Step S W
    → WalkEnd S W
walk_step rules walk ms (Ends outcome) = outcome
walk_step rules walk ms (Below i s) =
    walk_at rules.reasons.bad_index (rules.taken s) walk (slice_get ms i) s

-- The walk of a node if the game goes on and a ply is left. At most x: every move has to leave the
-- other side at least -x. At least x: the named move has to leave it at most -x.
abbrev pub walk_inner : {S W : Type 0} → Rules S W → Position → ℕ → (Move → Limit → S → WalkEnd S W)
    → Limit → S → WalkEnd S W
walk_inner rules p e walk (AtMost x) s = walk_all (λ m. walk m (AtLeast (neg_ℤ x))) (moves p) s
walk_inner rules p e walk (AtLeast x) s =
    walk_step rules (λ m s1. go_on (walk m (AtMost (neg_ℤ x)) s1)
    (λ s2. Left (rules.keep p e x s2))) (moves p) (rules.take p e x s)

abbrev pub leaf_outcome : {S W : Type 0} → Rules S W → Bool → S → WalkEnd S W
leaf_outcome rules true s = Left s
leaf_outcome rules false s = Fault rules.reasons.leaf_fails (rules.taken s)

-- the walk of a claim, with this number of plies left
unfoldable pub walk : {S W : Type 0} → Rules S W → Position → ℕ → Limit → S → WalkEnd S W
walk rules p zero claim s = leaf_outcome rules (is_kept claim (value p zero)) s
walk rules p (suc e) claim s =
    cond (is_over p) (leaf_outcome rules (is_kept claim (value p (suc e))) s)
    (walk_inner rules p (suc e) (λ m. walk rules (after p m) e) claim s)

-- how a node goes on once it has taken the place of a move
abbrev pub goes_below : {S W : Type 0} → Rules S W → Position → ℕ → ℤ → ℕ → S → WalkEnd S W
goes_below rules p e x i s =
    walk_at rules.reasons.bad_index (rules.taken s)
    (λ m s1. go_on (walk rules (after p m) (e - 1) (AtMost (neg_ℤ x)) s1)
    (λ s2. Left (rules.keep p e x s2))) (slice_get (moves p) i) s

-- nothing is left over
abbrev pub finish : {S W : Type 0} → Rules S W → S → WalkEnd S W
finish rules s = cond (rules.at_end s) (Left s) (Fault rules.reasons.rest (rules.taken s))

-- The moves of a root in order. The one at place k has to be the first of the moves worth most, and
-- worth v: each move before it is worth less than v, it is worth v, and each move after it is worth
-- at most v.
abbrev pub walk_moves : {S W : Type 0} → (Move → Limit → S → WalkEnd S W) → List Move → ℕ → Move → ℤ
    → S → WalkEnd S W
walk_moves walk ms k m v s =
    go_on (walk_all (λ n. walk n (AtLeast (pos 1 -ℤ v))) (take k ms) s) (λ s1.
    go_on (walk m (AtMost (neg_ℤ v)) s1) (λ s2.
    go_on (walk m (AtLeast (neg_ℤ v)) s2) (λ s3.
    walk_all (λ n. walk n (AtLeast (neg_ℤ v))) (drop (k + 1) ms) s3)))

abbrev pub walk_root : {S W : Type 0} → Rules S W → (Move → Limit → S → WalkEnd S W) → List Move
    → Option ℕ → Move → ℤ → S → WalkEnd S W
walk_root rules walk ms None m v s = Fault rules.reasons.no_such_move 0
walk_root rules walk ms (Some k) m v s = go_on (walk_moves walk ms k m v s) (finish rules)

-- the place of the move in the list, counted from 0
abbrev pub place_of : Move → List Move → Option ℕ
place_of m ms = position_from (is_move m) 0 ms

-- The walk of a certificate: it claims that m is the best move of p with d plies searched in all,
-- and that p is worth v.
unfoldable pub certificate : {S W : Type 0} → Rules S W → Position → ℕ → Move → ℤ → S → WalkEnd S W
certificate rules p d m v s =
    walk_root rules (λ n. walk rules (after p n) (d - 1)) (moves p) (place_of m (moves p)) m v s
