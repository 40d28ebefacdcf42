-- All the theorems about writing sheets (`writes_all`).
use Rattle.writing.specs.Claims.{Writes}
use Rattle.writing.proofs.Questions.{write_first_no, write_all_yes, write_numbers}
use Rattle.writing.proofs.Answers.{write_told}
use Rattle.writing.proofs.Trips.{same_questions, written_read, in_order_lem, read_written}
use Rattle.writing.proofs.Limits.{never_eleven, write_capped, write_cut}
use Rattle.writing.proofs.Texts.{typed_fields, text_says, text_longest, text_fields}

pub writes_all : Writes
writes_all =
    record {
      write_first_no = write_first_no;
      write_all_yes = write_all_yes;
      write_numbers = write_numbers;
      write_refused = λ m n vs o o' r says. (
        (write_told says).number,
        (write_told says).place,
        (write_told says).refused,
      );
      same_questions = same_questions;
      written_read = written_read;
      in_order_lem = in_order_lem;
      read_written = λ b o o' r accepted. read_written b accepted o o' r;
      never_eleven = never_eleven;
      write_capped = write_capped;
      write_cut = write_cut;
      typed_fields = typed_fields;
      text_says = text_says;
      text_longest = text_longest;
      text_fields = text_fields;
    }
