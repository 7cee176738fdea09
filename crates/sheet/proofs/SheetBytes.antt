-- Machines, moves and amendments that are right make a file of bytes, where the commands are bytes.
-- Assumes nothing.
use Prim.Native.Nat.{ℕ, ◌/◌, ◌<◌}
use mathlib.Core.Path.{◌≡◌, refl, sym, ap, subst, ◌∙◌}
use mathlib.Core.List.Memᴰ
use mathlib.Core.List.{List, [], ◌∷◌, ◌++◌, flat_map, Memᴰ}
use mathlib.Core.Bool.{Bool, true}
use native.Mathlib.Nat.{mod-lt}
use native.Mathlib.Omega.{arith}
use borrow.Author.Tests.{ltb-true, leb-true, leb-false, lt-ltb}
use lib.Dec.{ltb, leb}
use lib.ListN.{length, get_or, get_or-eq_default}
use Rattle.common.specs.Lists.{up_to, all}
use Rattle.common.proofs.Bools.{by_cases, and_intro}
use Rattle.common.proofs.Lists.{all-at, all-intro, all_append}
use Rattle.common.proofs.Members.{mem-get_or, mem_index, up_to-below}
use Rattle.common.proofs.Clear.{all-flat_map}
use Rattle.common.proofs.Sums.{flat_map-snoc}
use Rattle.sheet.specs.Record.{byte, two_bytes, record_of}
use Rattle.sheet.specs.Model.{Guard, Move, Model, absent_guard, absent_move, machine_count, move_count, mode_count, move_at, guard_at}
use Rattle.sheet.specs.Model.{with_moves}
use Rattle.sheet.specs.Amend.{Amendment, replace, withdraw, named, standing_at, amend, Acts, Amends, none, more}
use Rattle.sheet.specs.Valid.{ValidMove, Valid}
use Rattle.sheet.specs.Write.{machine_body, guard_bytes, move_body, amendment_record, amended_bytes}
use Rattle.sheet.proofs.Amended.{named-inside, named-fields, amended-each, acts-some, acts-amend, valid-amended}
use Rattle.sheet.proofs.Bytes.{live-is-byte, mask-is-byte}

abbrev pub is_byte : ℕ → Bool
is_byte n = ltb n 256

pub no_bytes : all is_byte [] ≡ true
unfolding all
no_bytes = refl

pub one-more-byte : (n : ℕ) (ns : List ℕ) → n < 256 → all is_byte ns ≡ true → all is_byte (n ∷ ns) ≡ true
unfolding all
one-more-byte n ns h k = and_intro (lt-ltb n 256 h) k

pub byte-of-bytes : (s : List ℕ) → all is_byte s ≡ true → (i : ℕ) → byte s i < 256
byte-of-bytes s h i =
    by_cases (leb (length s) i)
    (λ t. omega (arith, get_or-eq_default s 0 {n = i} (leb-true (length s) i t)))
    (λ f. ltb-true _ _ (all-at is_byte h (mem-get_or s i 0 (leb-false _ _ f))))

pub two_are_bytes : (n : ℕ) → all is_byte (two_bytes n) ≡ true
unfolding two_bytes
two_are_bytes n =
    one-more-byte _ _ (mod-lt n (omega arith)) (one-more-byte _ _ (mod-lt (n / 256) (omega arith)) no_bytes)

pub both_bytes : (xs ys : List ℕ) → all is_byte xs ≡ true → all is_byte ys ≡ true → all is_byte (xs ++ ys) ≡ true
both_bytes xs ys h k = all_append is_byte xs ys ∙ and_intro h k

pub record-bytes : (kind : ℕ) (body : List ℕ) → all is_byte body ≡ true → all is_byte (record_of kind body) ≡ true
unfolding record_of
record-bytes kind body h = both_bytes _ body (both_bytes _ _ (two_are_bytes (length body)) (two_are_bytes kind)) h

-- records of one kind, one behind the other
pub records-bytes : (kind n : ℕ) (body : ℕ → List ℕ) → ((k : ℕ) → k < n → all is_byte (body k) ≡ true)
    → all is_byte (flat_map (λ k. record_of kind (body k)) (up_to n)) ≡ true
records-bytes kind n body h =
    all-flat_map is_byte (λ k. record_of kind (body k)) (up_to n)
    ∙ all-intro _ (up_to n) (λ k i. record-bytes kind (body k) (h k (up_to-below n i)))

module _ (m : Model) (ok : Valid m) where
  modes-small : (i : ℕ) → i < machine_count m → mode_count m i < 256
  modes-small i h = omega (arith, (ok.machines-valid i h).few-modes)

  machine-bytes : (i : ℕ) → i < machine_count m → all is_byte (machine_body m i) ≡ true
  unfolding machine_body
  machine-bytes i h = one-more-byte _ _ (modes-small i h) (one-more-byte _ _ (live-is-byte m ok i) no_bytes)

  module _ (v : Move) (h : ValidMove m v) where
    guard-is-bytes : (g : Guard) → Memᴰ g v.guards → all is_byte (guard_bytes g) ≡ true
    guard-is-bytes g i =
        let j = mem_index absent_guard i in
        let n : ℕ = (guard_at v j.0).machine in
        let k = h.guards-valid j.0 j.1 in
        let small : n < 256 = omega (arith, k.present, ok.few-machines) in
        rw (← j.2) (one-more-byte n _ small (one-more-byte _ _ (mask-is-byte m ok k) no_bytes))

    move-bytes : v.command < 256 → all is_byte (move_body v) ≡ true
    unfolding move_body
    move-bytes c =
        let few = ok.few-machines in
        let modes = modes-small v.machine h.present in
        one-more-byte v.machine _ (omega (arith, h.present))
        (one-more-byte v.from _ (omega (arith, h.from-present))
        (one-more-byte v.to _ (omega (arith, h.to-present))
        (one-more-byte v.command _ c
        (all-flat_map is_byte guard_bytes v.guards ∙ all-intro _ v.guards guard-is-bytes))))

  -- the commands of the moves that stand are bytes
  abbrev CommandBytes : List Move → Type 0
  CommandBytes moves = (v : ℕ) → v < length moves → (get_or moves v absent_move).command < 256

  -- an amendment of moves that stand is bytes
  amendment-bytes : (a : Amendment) {moves after : List Move} → Valid (with_moves m moves) → CommandBytes moves
      → ((v : Move) → a ≡ replace v → ValidMove m v × (v.command < 256)) → Acts a moves after
      → all is_byte (amendment_record a) ≡ true
  amendment-bytes (replace v) valid commands new acts =
      let n = new v refl in record-bytes 4 (move_body v) (move-bytes v n.0 n.1)
  amendment-bytes (withdraw machine from command) {moves} valid commands new acts =
      let a : Amendment = withdraw machine from command in
      let some = acts-some moves a acts in
      let x = standing_at moves a in
      let inside = named-inside moves a some in
      let f = named-fields moves a some in
      let w = valid.moves-valid x inside in
      let modes = modes-small (get_or moves x absent_move).machine w.present in
      record-bytes 5 (machine ∷ from ∷ command ∷ [])
      (one-more-byte machine _ (omega (arith, w.present, f.0, ok.few-machines))
      (one-more-byte from _ (omega (arith, w.from-present, f.1))
      (one-more-byte command _ (omega (arith, commands x inside, f.2)) no_bytes)))

  -- amendments one after the other: they are bytes, and what stands is valid, its commands are bytes
  pub record AmendedBytes (changes : List Amendment) (moves : List Move) : Type 0 where
    pub valid : Valid (with_moves m moves)
    pub commands : CommandBytes moves
    pub bytes : all is_byte (flat_map amendment_record changes) ≡ true

  amends-bytes : {changes : List Amendment} {moves : List Move} → CommandBytes m.moves
      → ((v : Move) → Memᴰ (replace v) changes → ValidMove m v × (v.command < 256))
      → Amends m.moves changes moves → AmendedBytes changes moves
  unfolding flat_map all amend
  amends-bytes commands new none = record { valid = ok; commands = commands; bytes = refl }
  amends-bytes commands new (more {changes} {moves} {after} a before acts) =
      let b = amends-bytes commands (λ v i. new v (Memᴰ.append_left (a ∷ []) i)) before in
      let here : (v : Move) → a ≡ replace v → ValidMove m v × (v.command < 256) =
      λ v e. new v (Memᴰ.append_right changes (Memᴰ.head (sym e))) in
      let some = acts-some moves a acts in
      let x = standing_at moves a in
      let e : amend moves a ≡ after = acts-amend moves a acts b.valid.moves-distinct in
      record {
        valid = subst (λ l. Valid (with_moves m l)) e (valid-amended m moves a b.valid some (λ v q. (here v q).0));
        commands =
            subst CommandBytes e
            (amended-each moves moves absent_move absent_move (named a) (named a) x (named-inside moves a some) refl a
            (λ v w. v.command < 256) b.commands
            (λ v q. rw q (here v q).1));
        bytes =
            ap (all is_byte) (flat_map-snoc amendment_record changes a)
            ∙ both_bytes (flat_map amendment_record changes) (amendment_record a) b.bytes
            (amendment-bytes a b.valid b.commands here acts);
      }

  pub file-is-bytes : {changes : List Amendment} {moves : List Move} → Amends m.moves changes moves
      → CommandBytes m.moves → ((v : Move) → Memᴰ (replace v) changes → ValidMove m v × (v.command < 256))
      → (i : ℕ) → byte (amended_bytes m changes) i < 256
  unfolding amended_bytes
  file-is-bytes {changes} acts commands new =
      byte-of-bytes (amended_bytes m changes)
      (both_bytes _ (record_of 3 [])
      (both_bytes _ (flat_map amendment_record changes)
      (both_bytes _ _ (records-bytes 1 (machine_count m) (machine_body m) machine-bytes)
      (records-bytes 2 (move_count m) (λ v. move_body (move_at m v))
      (λ v h. move-bytes (move_at m v) (ok.moves-valid v h) (commands v h))))
      (amends-bytes commands new acts).bytes)
      (record-bytes 3 [] no_bytes))
