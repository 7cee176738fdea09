-- What writing the clean sheet counts and stores, one record after the other.
-- Assumes nothing.
use Prim.Native.Nat.{ℕ, ◌+◌, ◌-◌, ◌*◌, ◌≤◌, ◌<◌, zero-le}
use mathlib.Core.Path.{◌≡◌, refl, sym, ap, ◌∙◌}
use mathlib.Core.List.{List, [], ◌∷◌, ◌++◌}
use native.Mathlib.Omega.{arith}
use lib.ListN.{length, get_or, take, drop, length-append}
use Rattle.common.specs.Lists.{up_to}
use Rattle.common.specs.Reply.{given, refused, fitted, length_of, output_after}
use Rattle.common.proofs.Members.{length-up_to}
use Rattle.common.proofs.Output.{not-fitted}
use Rattle.common.proofs.Sums.{length-flat_map, sum-constant}
use Rattle.sheet.specs.Record.{byte, word, body_at, two_bytes, record_of}
use Rattle.sheet.specs.Kept.Written.{written}
use Rattle.sheet.proofs.Overwriting.{written_none, length-written}
use Rattle.sheet.proofs.Pieces.{Puts, puts_then, length_up, pieces-short, CountedUpto, counted_next, counted-end}
use Rattle.sheet.proofs.Pieces.{PutUpto, put-more, put-room, put-end, fitted-written}
use Rattle.sheet.proofs.Records.{whole_here, body-whole}
use Rattle.sheet.proofs.Written.{length-record_of}
use Rattle.sheet.proofs.WritingBytes.{record-written}
use Rattle.clean.specs.Kept.{machine_by, move_by, machines_by, moves_by, clean_by, FewMoves}

-- a record, its body behind its header
pub record-put : (s body : List ℕ) (at kind : ℕ) {p q : List ℕ}
    → p ≡ written at (two_bytes (length body) ++ two_bytes kind) s → q ≡ written (at + 4) body p
    → at + 4 + length body ≤ length s → Puts s at (record_of kind body) (at + 4 + length body) q
record-put s body at kind {p} {q} first second room = (
  omega (arith, length-record_of kind body),
  record-written s p q body at kind (at + 4) first second refl (omega arith),
)

-- The machines

module _ (modes live : List ℕ) where
  machine-length : (i : ℕ) → length (machine_by modes live i) ≡ 6
  unfolding machine_by
  machine-length i = length-record_of 1 (get_or modes i 0 ∷ get_or live i 0 ∷ [])

  machines-length : length (machines_by modes live) ≡ 6 * length modes
  machines-length =
      let n = length modes in
      omega (
        arith,
        length-flat_map (machine_by modes live) (up_to n),
        sum-constant (λ i. length (machine_by modes live i)) 6 (up_to n) (λ i m. machine-length i),
        length-up_to n,
      )

  module _ (s : List ℕ) (room : length (machines_by modes live) ≤ length s) {at i : ℕ} {out : List ℕ}
      (u : PutUpto (machine_by modes live) (length modes) s 0 at i out) where
    pub machine-room : i < length modes → at + 4 + 2 ≤ length out
    machine-room l =
        omega (arith, put-room (machine_by modes live) (length modes) s 0 (omega arith) u l, machine-length i)

    pub machine-more : i < length modes → {next : ℕ} {after : List ℕ} → length after ≡ length out
        → Puts out at (record_of 1 (get_or modes i 0 ∷ get_or live i 0 ∷ [])) next after
        → PutUpto (machine_by modes live) (length modes) s 0 next (i + 1) after
    unfolding machine_by
    machine-more l size p = put-more (machine_by modes live) (length modes) s 0 (omega arith) u l size p

    pub machines-put : length modes ≤ i
        → (at ≡ length (machines_by modes live)) × (out ≡ written 0 (machines_by modes live) s)
    machines-put l =
        let (end, all) = put-end (machine_by modes live) (length modes) s 0 u l in
        (omega arith, all)

-- The moves

-- the body of one, by its record
module _ {file places : List ℕ} (h : FewMoves file places) (v : ℕ) (l : v < length places) {at : ℕ}
    (e : at ≡ get_or places v 0) where
  within : at + 4 + word file at ≤ length file
  within = rw e (h.whole v l)

  pub low-inside : at < length file
  low-inside = omega (arith, within)

  pub high-inside : at + 1 < length file
  high-inside = omega (arith, within)

  module _ {low high : ℕ} (a : low ≡ byte file at) (b : high ≡ byte file (at + 1)) where
    len_is : low + 256 * high ≡ word file at
    unfolding word
    len_is = omega (arith, a, b)

    pub body-within : at + 4 + (low + 256 * high) ≤ length file
    body-within = omega (arith, within, len_is)

    pub body-there : take (at + 4 + (low + 256 * high) - (at + 4)) (drop (at + 4) file) ≡ body_at file (get_or places v 0)
    body-there = rw (len_is, ← e) (body-whole file at refl (whole_here file at within))

module _ (file places : List ℕ) where
  abbrev own : ℕ → List ℕ
  own = move_by file places

  body-length : (v : ℕ) {body : List ℕ} → body ≡ body_at file (get_or places v 0) → 4 + length body ≡ length (own v)
  unfolding move_by
  body-length v e = ap (λ b. 4 + length b) e ∙ sym (length-record_of 2 _)

  -- at most 20 bytes of a body and 4 before it
  moves-short : FewMoves file places → length (moves_by file places) ≤ 6000
  moves-short h =
      let most = pieces-short own 24 (length places) (λ v l. omega (arith, h.short v l, body-length v refl)) in
      omega (arith, h.few, most)

  module _ {n v : ℕ} (u : CountedUpto own (length places) n v) where
    module _ (l : v < length places) {body : List ℕ} (e : body ≡ body_at file (get_or places v 0)) where
      pub moves_next : CountedUpto own (length places) (n + (4 + length body)) (v + 1)
      moves_next = counted_next own (length places) u l (body-length v e)

      pub moves-room : FewMoves file places → n + (4 + length body) ≤ 6000
      moves-room h =
          let up = length_up own (length places) moves_next.inside in
          omega (arith, moves_next.counted, up, moves-short h)

    pub moves-counted : FewMoves file places → length places ≤ v → (n ≤ 6000) × (n ≡ length (moves_by file places))
    moves-counted h l =
        let e = counted-end own (length places) u l in
        (omega (arith, e, moves-short h), e)

  module _ (s : List ℕ) (from : ℕ) (room : from + length (moves_by file places) ≤ length s) {at v : ℕ} {out : List ℕ}
      (u : PutUpto own (length places) s from at v out) (l : v < length places) {body : List ℕ}
      (e : body ≡ body_at file (get_or places v 0)) where
    pub move-room : at + 4 + length body ≤ length out
    move-room = omega (arith, put-room own (length places) s from room u l, body-length v e)

    pub move-more : {next : ℕ} {after : List ℕ} → length after ≡ length out → Puts out at (record_of 2 body) next after
        → PutUpto own (length places) s from next (v + 1) after
    unfolding move_by
    move-more size p = put-more own (length places) s from room u l size (rw e at p)

-- The sheet

module _ (file modes live places : List ℕ) where
  abbrev whole : List ℕ
  whole = clean_by file modes live places

  clean-length : length whole ≡ 6 * length modes + length (moves_by file places) + 4
  unfolding clean_by
  clean-length =
      let machines = machines_by modes live in
      let moves = moves_by file places in
      omega (
        arith,
        length-append (machines ++ moves) (record_of 3 []),
        length-append machines moves,
        machines-length modes live,
        length-record_of 3 [],
      )

  module _ (s : List ℕ) {n : ℕ} (e : n ≡ length (moves_by file places)) where
    pub clean-too-long : length s < 6 * length modes + n + 4
        → (refused 12 0 ≡ length_of (fitted whole (length s))) × (s ≡ output_after (fitted whole (length s)) s)
    clean-too-long h = not-fitted whole s (omega (arith, clean-length))

    module _ (h : 6 * length modes + n + 4 ≤ length s) where
      pub machines-fit : length (machines_by modes live) ≤ length s
      machines-fit = omega (arith, machines-length modes live)

      module _ {moves : ℕ} {front : List ℕ}
          (first : (moves ≡ length (machines_by modes live)) × (front ≡ written 0 (machines_by modes live) s)) where
        front-size : length front ≡ length s
        front-size = ap length first.1 ∙ length-written 0 _ s zero-le (omega (arith, machines-fit))

        pub moves-fit : moves + length (moves_by file places) ≤ length front
        moves-fit = omega (arith, first.0, front-size, machines-length modes live)

        module _ {end : ℕ} {most : List ℕ} (second : Puts front moves (moves_by file places) end most) where
          pub end_fits : end + 4 ≤ length most
          end_fits =
              let size = ap length second.1 ∙ length-written moves _ front (omega (arith, moves-fit)) moves-fit in
              omega (arith, size, front-size, first.0, second.0, machines-length modes live)

          pub clean-put : {last : List ℕ} → last ≡ written end (two_bytes 0 ++ two_bytes 3) most
              → (given (6 * length modes + n + 4) ≡ length_of (fitted whole (length s)))
              × (last ≡ output_after (fitted whole (length s)) s)
          unfolding clean_by
          clean-put {last} third =
              let machines : Puts s 0 (machines_by modes live) moves front = (omega (arith, first.0), first.1) in
              let ending = record-put most [] end 3 third (written_none (end + 4) last) (omega (arith, end_fits)) in
              fitted-written whole s (omega (arith, clean-length)) (omega (arith, clean-length))
              (puts_then s 0 _ _ zero-le (puts_then s 0 _ _ zero-le machines second) ending)
