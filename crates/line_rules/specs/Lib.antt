pub mod BadForms
