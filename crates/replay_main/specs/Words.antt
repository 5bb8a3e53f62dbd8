-- The words that a run takes.
use Rattle.std.specs.Prelude.{◌≡◌, ℕ, ◌≤◌, Bool, true, false, List, [], ◌∷◌, codes, decimal}
use Rattle.replay_main.specs.declared.words.Form.{Form}
use Rattle.replay_main.specs.declared.words.Form.TheVariants.{Replay, Plain, Check, Gen, Bulk}

-- The word behind `replay` or `plain` that asks for the receipts, where they are asked for.
abbrev pub option_words : Bool → List (List ℕ)
option_words true = codes "--receipts" ∷ []
option_words false = []

-- The words of each form, exactly.
abbrev pub words_of : Form → List (List ℕ)
words_of (Replay receipts) = codes "replay" ∷ option_words receipts
words_of (Plain receipts) = codes "plain" ∷ option_words receipts
words_of Check = codes "check" ∷ []
words_of (Gen rounds) = codes "gen" ∷ decimal rounds ∷ []
words_of (Bulk rounds) = codes "bulk" ∷ decimal rounds ∷ []

-- So many rounds of the generated script may be asked for.
abbrev pub AreRounds : ℕ → Type 0
AreRounds rounds = (1 ≤ rounds) × (rounds ≤ 1000)

-- The number of rounds, where the form has one, may be asked for.
abbrev pub IsInRange : Form → Type 0
IsInRange (Gen rounds) = AreRounds rounds
IsInRange (Bulk rounds) = AreRounds rounds
IsInRange _ = Unit {0}

-- The words ask for this form.
abbrev pub AskFor : List (List ℕ) → Form → Type 0
AskFor words form = IsInRange form × (words ≡ words_of form)

-- The words ask for no form.
abbrev pub AreNoForm : List (List ℕ) → Type 0
AreNoForm words = (form : Form) → AskFor words form → ⊥

-- The forms that need no other thread.
abbrev pub IsPlainForm : Form → Type 0
IsPlainForm (Replay receipts) = ⊥
IsPlainForm (Plain receipts) = Unit {0}
IsPlainForm Check = Unit {0}
IsPlainForm (Gen rounds) = Unit {0}
IsPlainForm (Bulk rounds) = ⊥

-- The words ask for no such form.
abbrev pub AreNoPlainForm : List (List ℕ) → Type 0
AreNoPlainForm words = (form : Form) → IsPlainForm form → AskFor words form → ⊥

-- The forms that read nothing.
abbrev pub IsGenerated : Form → Type 0
IsGenerated (Gen rounds) = Unit {0}
IsGenerated (Bulk rounds) = Unit {0}
IsGenerated _ = ⊥
