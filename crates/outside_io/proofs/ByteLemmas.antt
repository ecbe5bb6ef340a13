-- Bytes moved in two steps, and bytes copied from the front of others.
use Rattle.std.proofs.Common.{◌≡◌, ℕ, ◌+◌, ◌-◌, ◌≤◌, List, ◌++◌, length, take, drop, Some, None, ap, sym, ◌∙◌, append_assoc, add_assoc, take-add, arith, length-drop, length-take-le}
use Rattle.std.specs.Option.{option_map}
use Rattle.std.specs.declared.option.Option.{Option}
use Rattle.std.proofs.lemmas.List.{drop-drop, take_all, take_at, take-append-drop}
use Rattle.outside_io.specs.Bytes.{Takes, Appends, Uses}

-- what `&bytes[at..]` is
pub rest_slice : (bytes : List ℕ) (at : ℕ) → take (length bytes - at) (drop at bytes) ≡ drop at bytes
rest_slice bytes at = take_all (length bytes - at) (drop at bytes) (omega (arith, length-drop at bytes))

-- bytes put in two steps
pub put_more : (old mid new : Option (List ℕ)) (bytes : List ℕ) (at n : ℕ)
    → Appends (take at bytes) old mid
    → Appends (take n (take (length bytes - at) (drop at bytes))) mid new
    → Appends (take (at + n) bytes) old new
put_more None mid new bytes at n e f = f ∙ ap (option_map (λ before. before ++ take n (take (length bytes - at) (drop at bytes)))) e
put_more (Some b) mid new bytes at n e f =
    f ∙ ap (option_map (λ before. before ++ take n (take (length bytes - at) (drop at bytes)))) e
    ∙ ap (λ (x : List ℕ). Some x) (append_assoc b _ _ ∙ ap (λ x. b ++ (take at bytes ++ take n x)) (rest_slice bytes at) ∙ ap (λ x. b ++ x) (sym (take-add at n bytes)))

-- room used in two steps
pub use_more : (old mid new : Option ℕ) (m n : ℕ) → Uses m old mid → Uses n mid new → Uses (m + n) old new
use_more old mid None m n e f = e ∙ ap (option_map (λ room. m + room)) f
use_more old mid (Some r) m n e f = e ∙ ap (option_map (λ room. m + room)) f ∙ ap (λ (x : ℕ). Some x) (sym (add_assoc m n r))

-- bytes taken in two steps
pub take_more : (old mid new : Option (List ℕ)) (first second : List ℕ) → Takes first old mid → Takes second mid new → Takes (first ++ second) old new
take_more old mid None first second e f = e ∙ ap (option_map (λ rest. first ++ rest)) f
take_more old mid (Some r) first second e f = e ∙ ap (option_map (λ rest. first ++ rest)) f ∙ ap (λ (x : List ℕ). Some x) (sym (append_assoc first second r))

-- n bytes copied into the front of a buffer
pub copied_front : (bytes buffer copied : List ℕ) (at n : ℕ) → n ≤ length (drop at bytes) → copied ≡ take n (drop at bytes) → drop at bytes ≡ take n (copied ++ buffer) ++ drop (at + n) bytes
copied_front bytes buffer copied at n h e =
    let size : length (take n (drop at bytes)) ≡ n = length-take-le n (drop at bytes) h in
    rw (e, take_at (take n (drop at bytes)) buffer n size, sym (drop-drop n at bytes)) (sym (take-append-drop n (drop at bytes)))
