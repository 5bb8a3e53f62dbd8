-- The generated script is a script.
use Rattle.std.specs.Prelude.{ℕ, List}
use Rattle.std.specs.List.{AllByRecursion}
use Rattle.script_text.specs.declared.header.Header.{Header}
use Rattle.script_text.specs.declared.section.Section.{Section}
use Rattle.captures.specs.Calls.{SectionCalls, IsSectionInRange}
use Rattle.outside.specs.Generated.{generated}
use Rattle.replay_main.specs.Judged.{IsJudged}
use Rattle.replay_main.specs.Run.{LooksLikeScript}
use Rattle.replay_main.specs.Words.{AreRounds}

-- The text is a script within all limits, the limit on bytes too, and what its sections ask for is in range.
pub record IsWholeScript (text : List ℕ) : Type 0 where
  pub header : Header
  pub sections : List Section
  pub calls : List SectionCalls
  pub judged : IsJudged text header sections calls
  pub ranges : AllByRecursion IsSectionInRange calls
  pub looks_so : LooksLikeScript text

-- Each generated script that may be asked for is one.
abbrev pub GeneratedIsScript : Type 0
GeneratedIsScript = (rounds : ℕ) → AreRounds rounds → IsWholeScript (generated rounds)
