-- What earlier lines gave, and what a line adds. A line that was refused gives nothing.
use Rattle.std.specs.Prelude.{◌≡◌, ℕ, ◌⊎◌, List, Some, None, Err, vec_items, Option, Result, ok_or, slice_index}
use Rattle.std.specs.Option.{option_map}
use Rattle.block.specs.Bytes.{of_bytes}
use Rattle.cipher.specs.Meaning.{Meaning}
use Rattle.labelled.specs.Labels.{cipher_of}
use Rattle.elmd.specs.declared.refusal.Refusal.TheVariants.{OtherLabel}
use Rattle.console.specs.declared.fault.Fault.{Fault}
use Rattle.console.specs.declared.fault.Fault.TheVariants.{NotGiven, Refused}
use Rattle.console.specs.declared.given.Given.{Given}
use Rattle.console.specs.Commands.{Command, key, nonce, settings, heading, message, block, stream, unknown, malformed}

pub record Known : Type 0 where
  pub the_key : Option (List ℕ)
  pub the_nonce : Option (List ℕ)
  pub the_settings : Option (List ℕ)
  pub the_heading : Option (List ℕ)

abbrev pub known : (k n p h : Option (List ℕ)) → Known
known k n p h = record { the_key = k; the_nonce = n; the_settings = p; the_heading = h }

abbrev pub nothing : Known
nothing = known None None None None

abbrev pub after : Known → Command → Known
after g (key b) = known (Some b) g.the_nonce g.the_settings g.the_heading
after g (nonce b) = known g.the_key (Some b) g.the_settings g.the_heading
after g (settings b) = known g.the_key g.the_nonce (Some b) g.the_heading
after g (heading b) = known g.the_key g.the_nonce g.the_settings (Some b)
after g (message b) = g
after g (block b) = g
after g (stream m b) = g
after g unknown = g
after g malformed = g

-- what the program holds
abbrev pub known_of : Given → Known
known_of g = known g.key g.nonce g.settings (option_map vec_items g.heading)

-- the cipher that the settings name under the key, where both were given
abbrev pub cipher_from : (key settings : Option (List ℕ)) → Result Meaning Fault
cipher_from None p = Err NotGiven
cipher_from (Some k) None = Err NotGiven
cipher_from (Some k) (Some p) = ok_or (cipher_of (slice_index p 0) (of_bytes k)) (Refused OtherLabel)

abbrev pub cipher_given : Known → Result Meaning Fault
cipher_given g = cipher_from g.the_key g.the_settings

-- settings, nonce and heading were given, and are these
pub record Encloses (g : Known) (p n h : List ℕ) : Type 0 where
  pub settings_are : g.the_settings ≡ Some p
  pub nonce_is : g.the_nonce ≡ Some n
  pub heading_is : g.the_heading ≡ Some h

-- one of them was not
abbrev pub Lacks : Known → Type 0
Lacks g = (g.the_settings ≡ None) ⊎ (g.the_nonce ≡ None) ⊎ (g.the_heading ≡ None)
