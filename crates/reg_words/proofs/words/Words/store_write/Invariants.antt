use Rattle.reg_words.proofs.words.Words.store_write.Given as goal

abbrev pub ghosts-store_register : goal.ghosts-store_register
ghosts-store_register a = record { key = a.key; number = a.turn }
