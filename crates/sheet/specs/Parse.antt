-- Reading a sheet front to back: the first faulty record refuses it, by its lowest number (1 to 8 and 21, "Order").
use Rattle.std.specs.Prelude.{ℕ, zero, suc, ◌+◌, List, [], ◌∷◌, ◌++◌, cond, length, eqb, ltb, Option, Some, None}
use Rattle.common.specs.Reply.{Reply, given, refused, fault, unless}
use Rattle.sheet.specs.declared.record.Record.{Record}
use Rattle.sheet.specs.Record.{byte, record_at, part}
use Rattle.sheet.specs.Model.{Model, empty_model, move_of}
use Rattle.sheet.specs.Amend.{Amendment, amendment_of, instead, standing_at, exchanged, amend}
use Rattle.sheet.specs.Amend.{Draft, empty_draft, draft_machine, draft_move, draft_amended, amended_model}
use Rattle.sheet.specs.Faults.{faults_of}

-- what a sheet that passes says: the model, and where the record of each of its moves begins
pub record Parsed : Type 0 where
  pub model : Model
  pub places : List ℕ

abbrev pub nothing : Parsed
nothing = record { model = empty_model; places = [] }

-- what has been read: the draft, and where the record of each standing move begins
pub record Progress : Type 0 where
  pub draft : Draft
  pub places : List ℕ

abbrev pub outset : Progress
outset = record { draft = empty_draft; places = [] }

-- an amendment's record begins at a place
abbrev pub amended_by : Progress → ℕ → Amendment → Progress
amended_by d at a =
    record {
      draft = draft_amended d.draft (amend d.draft.standing a);
      places = exchanged (standing_at d.draft.standing a) (instead a at) d.places;
    }

-- what has been read, with one more machine, move or amendment
unfoldable pub extended : Progress → ℕ → ℕ → List ℕ → Progress
extended d kind at body =
    let amendment = amended_by d at (amendment_of kind body) in
    cond (eqb kind 1)
    (record { draft = draft_machine d.draft (byte body 0) (byte body 1); places = d.places })
    (cond (eqb kind 2)
    (record { draft = draft_move d.draft (move_of body); places = d.places ++ (at ∷ []) })
    amendment)

abbrev pub finished : Progress → Parsed
finished d = record { model = amended_model d.draft; places = d.places }

-- where one record leads: to the next one, or to the end
pub data Turn : Type 0 where
  more : ℕ → Progress → Turn
  ended : Progress → Turn

-- a whole record; 3 is judged behind the end record, at the first byte after it
unfoldable pub turn_at : List ℕ → ℕ → Progress → ℕ → ℕ → ℕ → Reply Turn
turn_at s at d kind start len =
    unless (faults_of d.draft at kind (part s start len))
    (cond (eqb kind 3)
    (unless (fault 3 (start + len) (ltb (start + len) (length s)) ∷ []) (given (ended d)))
    (given (more (start + len) (extended d kind at (part s start len)))))

abbrev pub turn_of : List ℕ → ℕ → Progress → Option Record → Reply Turn
turn_of s at d (Some r) = turn_at s at d r.kind r.start r.len
turn_of s at d None = refused 1 at

-- At most n records from a place on. A sheet has at most 32 + 250 + 64 + 1, so a record past those is one too many.
unfoldable pub parse_from : ℕ → List ℕ → ℕ → Progress → Reply Parsed
parse_from zero s at d = refused 4 at
parse_from (suc n) s at d =
    elim (turn_of s at d (record_at s at)) [
      | given t ↦ elim t [
        | more next e ↦ parse_from n s next e
        | ended e ↦ given (finished e)
      ]
      | refused number place ↦ refused number place
    ]

-- the sheet that a file of bytes is, or the refusal
unfoldable pub parse : List ℕ → Reply Parsed
parse s = parse_from 347 s 0 outset
