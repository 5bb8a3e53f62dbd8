use Rattle.reg_words.proofs.words.Words.look_up.Given as goal

abbrev pub ghosts-load_register : goal.ghosts-load_register
ghosts-load_register a = record { key = a.key; number = a.at.turn }

abbrev pub ghosts-load_value : goal.ghosts-load_value
ghosts-load_value a = record { key = a.key; number = a.version }
