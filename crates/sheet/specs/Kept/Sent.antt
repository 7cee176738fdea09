-- How reading a sheet keeps the commands of the moves so far: a key for each move, in a table of 512 slots. A key stands in its own
-- slot or, where that is taken, in the next free one behind it; behind the last slot comes the first.
use Rattle.std.specs.Prelude.{ℕ, ◌+◌, ◌*◌, ◌/◌, ◌%◌, ◌≤◌, ◌<◌, ◌≡◌, Bool, true, not, eqb, ltb, length, get_or}
use mathlib.Core.List.{List, [], ◌∷◌, ◌++◌, map, Memᴰ}
use Rattle.common.specs.Lists.{any}
use Rattle.sheet.specs.Model.{Move, absent_move, is_same_move}

-- a move's machine, from mode and command as one two-byte number; nothing is cut off where the move is `Small`
unfoldable pub key_of : Move → ℕ
key_of v = (2048 * v.machine + 256 * v.from + v.command) % 65536

-- a move whose key tells it
pub record Small (v : Move) : Type 0 where
  pub machine : v.machine < 32
  pub from : v.from < 8
  pub command : v.command < 256

-- a key's own slot: bits 23 to 31 of its product with 2 ^ 32 over the golden ratio
unfoldable pub slot_of : ℕ → ℕ
slot_of key = key * 2654435761 / 8388608 % 512

-- the slot so far behind a slot
unfoldable pub behind : ℕ → ℕ → ℕ
behind slot far = (slot + far) % 512

-- The key in a slot, of two bytes: machine and mode above, the command below. A slot without a command is free.
unfoldable pub key_at : List ℕ → List ℕ → ℕ → ℕ
key_at pairs commands slot = 256 * get_or pairs slot 0 + get_or commands slot 0

-- a slot behind a key's own, with none free before it
pub record Reached (commands : List ℕ) (key slot : ℕ) : Type 0 where
  pub far : ℕ
  pub place : slot ≡ behind (slot_of key) far
  pub taken : (e : ℕ) → e < far → 0 < get_or commands (behind (slot_of key) e) 0

-- a key stands in such a slot
pub record Stands (pairs commands : List ℕ) (key : ℕ) : Type 0 where
  pub slot : ℕ
  pub reached : Reached commands key slot
  pub taken : 0 < get_or commands slot 0
  pub there : key_at pairs commands slot ≡ key

-- the number of the move whose key stands in a slot
pub record Owned (keys pairs commands owners : List ℕ) (slot : ℕ) : Type 0 where
  pub below : get_or owners slot 0 < length keys
  pub key : get_or keys (get_or owners slot 0) 0 ≡ key_at pairs commands slot

-- a table of at most 250 keys
pub record Sent (keys pairs commands owners : List ℕ) : Type 0 where
  pub few : length keys ≤ 250
  pub pairs-long : length pairs ≡ 512
  pub commands-long : length commands ≡ 512
  pub owners-long : length owners ≡ 512
  pub held : (slot : ℕ) → 0 < get_or commands slot 0 → Owned keys pairs commands owners slot
  pub stands : (j : ℕ) → j < length keys → Stands pairs commands (get_or keys j 0)
  -- the slots that are taken, as many as there are keys
  pub places : List ℕ
  pub one_each : length places ≡ length keys
  pub listed : (slot : ℕ) → 0 < get_or commands slot 0 → Memᴰ slot places

-- where a search for a key ends: at the slot that holds it, or at a free one
pub record Sought (keys pairs commands : List ℕ) (key slot : ℕ) : Type 0 where
  pub inside : slot < 512
  pub reached : Reached commands key slot
  pub tells : any (eqb key) keys ≡ ltb 0 (get_or commands slot 0)
  pub holds : 0 < get_or commands slot 0 → key_at pairs commands slot ≡ key

-- whether a key is a new one, and what is kept then
pub record Added (keys : List ℕ) (key : ℕ) (new : Bool) (pairs' commands' owners' : List ℕ) : Type 0 where
  pub earlier : any (eqb key) keys ≡ not new
  pub sent : new ≡ true → Sent (keys ++ (key ∷ [])) pairs' commands' owners'

-- a key for each move, which tells it
pub record Keyed (vs : List Move) (pairs commands owners : List ℕ) : Type 0 where
  pub small : (v : Move) → Memᴰ v vs → Small v
  pub apart : (i j : ℕ) → i < length vs → j < length vs → is_same_move (get_or vs i absent_move) (get_or vs j absent_move) ≡ true → i ≡ j
  pub table : Sent (map key_of vs) pairs commands owners
