-- Computed examples of the whole program: the text of an input gives the text of its output.
use Rattle.std.specs.Prelude.{◌≡◌, refl, true, false, List, [], ◌∷◌, ◌++◌, map, ℕ, pos, neg_ℤ, replicate}
use Prim.Native.Char.{code}
use Prim.Native.String as Text
use Rattle.lists.specs.Lists.{numbers, concat}
use Rattle.hexadecimal.specs.Hexadecimal.{number, signed}
use Rattle.desk.specs.Desk.{well_formed, hex2, desk_of}

-- the bytes of a text
abbrev pub bytes : Text.String → List ℕ
bytes Text.[] = []
bytes (Text.◌∷◌ c s) = code c ∷ bytes s

abbrev pub desk : Text.String → List ℕ
desk s = desk_of (bytes s)

-- every byte, written in two digits, reads back
bytes_back : map (λ n. number (hex2 n) 0 2) (numbers 256) ≡ numbers 256
unfolding number hex2
bytes_back = refl

-- the least and the greatest count, and the numbers around them
counts : map signed (0 ∷ 1 ∷ 32767 ∷ 32768 ∷ 65535 ∷ []) ≡ pos 0 ∷ pos 1 ∷ pos 32767 ∷ neg_ℤ (pos 32768) ∷ neg_ℤ (pos 1) ∷ []
counts = refl

-- "Zero frames are accepted: no clusters, no core frames."
no_frames : desk "040002000a0a\n" ≡ bytes "00000000\n"
unfolding desk_of
no_frames = refl

-- case (l); t = 0 alone; s = 11 and s = 255
refused : map desk ("010001000000\n" ∷ "010002000000\n" ∷ "01000200010b\n" ∷ "0100020001ff\n" ∷ []) ≡ map bytes ("ee01\n" ∷ "ee02\n" ∷ "ee05\n" ∷ "ee05\n" ∷ [])
unfolding desk_of
refused = refl

-- no input; a missing line end, of line one and of a frame; an uppercase digit; another line end; a shorter line, a longer line and an empty line; 0 and 5 channels
malformed : map desk ("" ∷ "010003000200" ∷ "010003000200\nffff" ∷ "010003000200\nFFFF\n" ∷ "010003000200\r\n" ∷ "010003000200\nfff\n" ∷ "010003000200\nffff0\n" ∷ "010003000200\nffff\n\n" ∷ "000003000200\n" ∷ "050003000200\n" ∷ [])
    ≡ replicate 10 (bytes "ee0a\n")
unfolding desk_of
malformed = refl

-- number 10 precedes 1 to 9
first_malformed : desk "010001000000\nx" ≡ bytes "ee0a\n"
unfolding desk_of
first_malformed = refl

-- 256 and 257 frames
most_frames_lem : map (λ n. well_formed (bytes "010002000100\n" ++ concat (replicate n (bytes "0000\n")))) (256 ∷ 257 ∷ []) ≡ true ∷ false ∷ []
unfolding well_formed
most_frames_lem = refl
