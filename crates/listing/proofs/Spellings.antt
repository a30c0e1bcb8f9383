-- The listing of a text with other spellings, computed: capitals, one space, no +, no leading zeros, NOP written out. Assumes nothing.
use mathlib.Core.Path.{◌≡◌, refl}
use Rattle.model.specs.declared.Parameters.{Parameters}
use Rattle.model.specs.Numbers.{bytes, digits_from, digits_of}
use Rattle.model.specs.Instructions.{row_of}
use Rattle.model.specs.Load.{lines_from, words_from, same_word, lookup_from, names, special_of, plain, argument, allows, is_within, arguments_from, line_cell, lines_words, image_of}
use Rattle.listing.specs.Listing.{spaced, cell_listing, listing_from, listing}

abbrev p : Parameters
p = record { k = 8; n = 2; s = 4; b = 2; t = 6 }

pub spellings : listing p (image_of p (bytes "set r0, +013 # a\n\n Mov\tirCR dm01\nJMPLT -0 iar Shr\nset DM00 -128"))
    ≡ bytes "SET R0 13\nNOP\nMOV IRCR DM1\nJMPLT 0 IAR SHR\nSET DM0 -128\n"
unfolding digits_from digits_of row_of lines_from words_from same_word lookup_from names special_of plain argument allows is_within arguments_from line_cell lines_words image_of spaced cell_listing listing_from
spellings = refl
